-- What holds of the answer that a command wants.
use Rattle.std.proofs.Common.{◌≡◌, ℕ, ℤ, List, Option, Some, None, Result, Ok, Err, IfOk, IfErr, sym, subst}
use Rattle.std.specs.Option.{ForSome}
use Rattle.std.proofs.lemmas.Result.{IfOk-weaker, IfErr-weaker}
use Rattle.store_core.specs.Files.{Files}
use Rattle.command_line.specs.Words.{Wanted, rows, create, run}
use Rattle.dml_program.specs.Answers.{AllTold, ProgramAnswer, refused, Carries, OnlyReads, Prints, ToldOf, create_answer, rows_answer}
use Rattle.dml_program.specs.Beginning.{begun_of}
use Rattle.dml_program.specs.Creating.{first_version_of}
use Rattle.dml_program.specs.Opening.{table_rows}
use Rattle.dml_program.specs.declared.status.Status.{Status}
use Rattle.dml_program.specs.declared.status.Status.TheVariants as status
use Rattle.dml_program.proofs.Reports.{lifted}

-- the answer to a table's rows, and to a table that is made
abbrev pub answer_to_rows : List ℕ → Files → ProgramAnswer
answer_to_rows table f = rows_answer f (table_rows table f)

abbrev pub answer_to_create : List ℕ → List ℕ → Files → Files → ℤ → ProgramAnswer
answer_to_create table schema f g n = create_answer table f (first_version_of table schema f g n)

-- what holds of each fault holds of a result's
each_err : {A E : Type 0} (r : Result A E) (P : E → Type 0) → ((e : E) → P e) → IfErr r P
each_err (Ok a) P each = tt
each_err (Err e) P each = each e

-- a command that makes a table does more than read
pub only_reads_by : {X : Type 0} (c : Option Wanted) (table schema : List ℕ) → c ≡ Some (create table schema) → OnlyReads c → X
only_reads_by c table schema is reads = absurd (subst OnlyReads is reads)

module _ (c : Option Wanted) (files given : Option Files) (now : Option ℤ) where
  pub told_usage : (holds : Files → ProgramAnswer → Type 0) → c ≡ None → ForSome files (λ f. holds f (refused status.Usage)) → ToldOf c files given now holds
  told_usage holds is each = subst (λ c. ToldOf c files given now holds) (sym is) each

  pub told_rows : (holds : Files → ProgramAnswer → Type 0) (table : List ℕ) → c ≡ Some (rows table)
      → ForSome files (λ f. holds f (answer_to_rows table f)) → ToldOf c files given now holds
  told_rows holds table is each = subst (λ c. ToldOf c files given now holds) (sym is) each

  pub told_create : (holds : Files → ProgramAnswer → Type 0) (table schema : List ℕ) → c ≡ Some (create table schema)
      → AllTold files given now (λ f g n. holds f (answer_to_create table schema f g n)) → ToldOf c files given now holds
  told_create holds table schema is each = subst (λ c. ToldOf c files given now holds) (sym is) each

  -- what holds of every answer
  each_of : (holds : Files → ProgramAnswer → Type 0) (d : Option Wanted) → ((f : Files) → files ≡ Some f → (a : ProgramAnswer) → holds f a) → ToldOf d files given now holds
  each_of holds None each = λ f told. each f told (refused status.Usage)
  each_of holds (Some (rows table)) each = λ f told. each f told (answer_to_rows table f)
  each_of holds (Some (create table schema)) each = λ f told g inputs n time. each f told (answer_to_create table schema f g n)
  each_of holds (Some (run table script)) each = λ f told g inputs. each_err (begun_of table script f g) (λ s. holds f (refused s)) (λ s. each f told (refused s))

  pub told_anyway : (holds : Files → ProgramAnswer → Type 0) → ((f : Files) → files ≡ Some f → (a : ProgramAnswer) → holds f a) → ToldOf c files given now holds
  told_anyway holds each = each_of holds c each

  -- what follows from what holds
  map_of : (holds other : Files → ProgramAnswer → Type 0) (d : Option Wanted) → ((f : Files) (a : ProgramAnswer) → holds f a → other f a)
      → ToldOf d files given now holds → ToldOf d files given now other
  map_of holds other None each told = λ f is. each f (refused status.Usage) (told f is)
  map_of holds other (Some (rows table)) each told = λ f is. each f (answer_to_rows table f) (told f is)
  map_of holds other (Some (create table schema)) each told = λ f is g inputs n time. each f (answer_to_create table schema f g n) (told f is g inputs n time)
  map_of holds other (Some (run table script)) each told = λ f is g inputs. IfErr-weaker (begun_of table script f g) _ _ (λ s held. each f (refused s) held) (told f is g inputs)

  pub told_map : (holds other : Files → ProgramAnswer → Type 0) → ((f : Files) (a : ProgramAnswer) → holds f a → other f a)
      → ToldOf c files given now holds → ToldOf c files given now other
  told_map holds other each told = map_of holds other c each told

  -- `rows` looks at no input and at no clock
  pub rows_found : {X : Type 0} (r : Result X Status) (lines : X → List ℕ) (table : List ℕ) → c ≡ Some (rows table)
      → IfOk r (λ x. ForSome files (λ f. Prints (answer_to_rows table f) (lines x)))
      → IfOk r (λ x. ToldOf c files given now (λ f a. Prints a (lines x)))
  rows_found r lines table is found = IfOk-weaker r _ _ (λ x each. told_rows (λ f a. Prints a (lines x)) table is each) found

  pub rows_refused : {X : Type 0} (r : Result X Status) (failed : Type 0) (table : List ℕ) → c ≡ Some (rows table)
      → IfErr r (λ s. ForSome files (λ f. Carries ⊥ (answer_to_rows table f) s))
      → IfErr r (λ s. ToldOf c files given now (λ f a. Carries failed a s))
  rows_refused r failed table is refuses = IfErr-weaker r _ _ (λ s each. told_rows (λ f a. Carries failed a s) table is (λ f told. lifted failed (answer_to_rows table f) s (each f told))) refuses

  pub create_found : {X : Type 0} (r : Result X Status) (lines : X → List ℕ) (table schema : List ℕ)
      → c ≡ Some (create table schema)
      → IfOk r (λ x. AllTold files given now (λ f g n. Prints (answer_to_create table schema f g n) (lines x)))
      → IfOk r (λ x. ToldOf c files given now (λ f a. Prints a (lines x)))
  create_found r lines table schema is found = IfOk-weaker r _ _ (λ x each. told_create (λ f a. Prints a (lines x)) table schema is each) found

  pub create_refused : {X : Type 0} (r : Result X Status) (failed : Type 0) (table schema : List ℕ)
      → c ≡ Some (create table schema)
      → IfErr r (λ s. AllTold files given now (λ f g n. Carries failed (answer_to_create table schema f g n) s))
      → IfErr r (λ s. ToldOf c files given now (λ f a. Carries failed a s))
  create_refused r failed table schema is refuses = IfErr-weaker r _ _ (λ s each. told_create (λ f a. Carries failed a s) table schema is each) refuses
