-- What is written of an answer.
use Rattle.std.proofs.Common.{◌≡◌, ◌⊎◌, inl, inr, ℕ, List, Option, refl, sym, ap, subst, ◌∙◌, arith}
use Rattle.plain_types.specs.Causes.{Rose, RoseTwice}
use Rattle.store_core.specs.Files.{Files}
use Rattle.dml_program.specs.Answers.{ProgramAnswer, done, refused, Carries, IsFault, LeavesAnswered, Prints, report_lines, status_of}
use Rattle.dml_program.specs.Causes.{HasStoreCause}
use Rattle.dml_program.specs.Statuses.{fault_lines}
use Rattle.dml_program.specs.declared.status.Status.{Status}
use Rattle.dml_program.specs.declared.status.Status.TheVariants as status

-- lines that an answer prints are its report
pub printed : (a : ProgramAnswer) (lines : List ℕ) (s : Status) → Prints a lines → (s ≡ status.Done) ⊎ (s ≡ status.OutputFailed) → report_lines a s ≡ lines
printed (done wanted left) lines s e (inl is) = ap (report_lines (done wanted left)) is ∙ sym e
printed (done wanted left) lines s e (inr is) = ap (report_lines (done wanted left)) is ∙ sym e
printed (refused reason) lines s e is = absurd e

-- a call that wrote its lines is done, or its output failed
module _ (a : ProgramAnswer) (lines : List ℕ) (s : Status) (prints : Prints a lines) (is : (s ≡ status.Done) ⊎ (s ≡ status.OutputFailed)) where
  pub done_carried : (failed : Type 0) → Carries failed a s
  done_carried failed = by_answer a prints is
    where
      by_answer : (b : ProgramAnswer) → Prints b lines → (s ≡ status.Done) ⊎ (s ≡ status.OutputFailed) → Carries failed b s
      by_answer (done wanted left) p (inl e) = subst (Carries failed (done wanted left)) (sym e) tt
      by_answer (done wanted left) p (inr e) = subst (Carries failed (done wanted left)) (sym e) tt
      by_answer (refused reason) p e = absurd p

  pub done_completes : (failed : Type 0) → (s ≡ status.OutputFailed → failed) → ¬ failed → (s ≡ status.Memory) ⊎ (s ≡ status_of a)
  done_completes failed cause none = by_answer a prints is
    where
      by_answer : (b : ProgramAnswer) → Prints b lines → (s ≡ status.Done) ⊎ (s ≡ status.OutputFailed) → (s ≡ status.Memory) ⊎ (s ≡ status_of b)
      by_answer (done wanted left) p (inl e) = inr e
      by_answer (done wanted left) p (inr e) = absurd (none (cause e))
      by_answer (refused reason) p e = absurd p

-- want of memory may come where a status is refused
pub memory_leaves : (a : ProgramAnswer) (s : Status) (files : Files) (new : Option Files) → IsFault s → LeavesAnswered a s files new → LeavesAnswered a status.Memory files new
memory_leaves a status.Usage files new r left = inl left
memory_leaves a (status.ScriptBad line sort) files new r left = inl left
memory_leaves a (status.TableBad kind path) files new r left = inl left
memory_leaves a status.StoreFailed files new r left = inl left
memory_leaves a (status.InputFailed name) files new r left = inl left
memory_leaves a (status.StateUnknown session number) files new r left = left
memory_leaves a status.Memory files new r left = left
memory_leaves a status.Done files new r left = absurd r
memory_leaves a status.Refused files new r left = absurd r
memory_leaves a status.OutputFailed files new r left = absurd r

-- an answer that says nothing of an input's failure stands wherever inputs may fail
pub lifted : (failed : Type 0) (a : ProgramAnswer) (s : Status) → Carries ⊥ a s → Carries failed a s
lifted failed a status.Done c = c
lifted failed a status.Refused c = c
lifted failed a status.Usage c = c
lifted failed a (status.ScriptBad line sort) c = c
lifted failed a (status.TableBad kind path) c = c
lifted failed a status.StoreFailed c = c
lifted failed a (status.InputFailed name) (inl none) = absurd none
lifted failed a (status.InputFailed name) (inr e) = inr e
lifted failed a status.OutputFailed c = c
lifted failed a (status.StateUnknown session number) c = c
lifted failed a status.Memory c = c

rose_once : (before now : ℕ) → RoseTwice before now → Rose before now
rose_once before now twice = omega arith

ends_in : (a : ProgramAnswer) (s result : Status) → a ≡ refused s → (result ≡ s) ⊎ (result ≡ status.Memory) → (result ≡ status.Memory) ⊎ (result ≡ status_of a)
ends_in a s result is (inl e) = inr (e ∙ ap status_of (sym is))
ends_in a s result is (inr e) = inl e

-- where nothing failed, a call that stopped ends with the wanted answer, or with want of memory
pub completes : (failed : Type 0) (a : ProgramAnswer) (s result : Status) (before now unsettled : ℕ) → IsFault s → Carries failed a s
    → HasStoreCause s before now unsettled → ¬ failed → ¬ (Rose before now) → (result ≡ s) ⊎ (result ≡ status.Memory)
    → (result ≡ status.Memory) ⊎ (result ≡ status_of a)
completes failed a status.Usage result before now unsettled r c cause none kept is = ends_in a status.Usage result c is
completes failed a (status.ScriptBad line sort) result before now unsettled r c cause none kept is = ends_in a (status.ScriptBad line sort) result c is
completes failed a (status.TableBad kind path) result before now unsettled r c cause none kept is = ends_in a (status.TableBad kind path) result c is
completes failed a (status.InputFailed name) result before now unsettled r (inl fault) cause none kept is = absurd (none fault)
completes failed a (status.InputFailed name) result before now unsettled r (inr e) cause none kept is = ends_in a (status.InputFailed name) result e is
completes failed a status.StoreFailed result before now unsettled r c cause none kept is = absurd (kept cause.0)
completes failed a (status.StateUnknown session number) result before now unsettled r c cause none kept is = absurd (kept (rose_once before now cause.0))
completes failed a status.Memory result before now unsettled r c cause none kept (inl e) = inl e
completes failed a status.Memory result before now unsettled r c cause none kept (inr e) = inl e
completes failed a status.Done result before now unsettled r c cause none kept is = absurd r
completes failed a status.Refused result before now unsettled r c cause none kept is = absurd r
completes failed a status.OutputFailed result before now unsettled r c cause none kept is = absurd r

-- the files that are left, whatever the status that is written
pub left_by : (a : ProgramAnswer) (s result : Status) (files : Files) (new : Option Files) → IsFault s → LeavesAnswered a s files new
    → (result ≡ s) ⊎ (result ≡ status.Memory) → LeavesAnswered a result files new
left_by a s result files new r left (inl e) = subst (λ t. LeavesAnswered a t files new) (sym e) left
left_by a s result files new r left (inr e) = subst (λ t. LeavesAnswered a t files new) (sym e) (memory_leaves a s files new r left)

pub done_leaves : (a : ProgramAnswer) (s : Status) (files : Files) (new : Option Files) → LeavesAnswered a status.Done files new
    → (s ≡ status.Done) ⊎ (s ≡ status.OutputFailed) → LeavesAnswered a s files new
done_leaves a s files new left (inl e) = subst (λ t. LeavesAnswered a t files new) (sym e) left
done_leaves a s files new left (inr e) = subst (λ t. LeavesAnswered a t files new) (sym e) left

-- what a call that stopped ends with
pub carried_on : (failed : Type 0) (a : ProgramAnswer) (s result : Status) → Carries failed a s → (result ≡ s) ⊎ (result ≡ status.Memory) → Carries failed a result
carried_on failed a s result c (inl e) = subst (Carries failed a) (sym e) c
carried_on failed a s result c (inr e) = subst (Carries failed a) (sym e) tt

refused_report : (a : ProgramAnswer) (s : Status) → IsFault s → report_lines a s ≡ fault_lines s
refused_report a status.Usage r = refl
refused_report a (status.ScriptBad line sort) r = refl
refused_report a (status.TableBad kind path) r = refl
refused_report a status.StoreFailed r = refl
refused_report a (status.InputFailed name) r = refl
refused_report a (status.StateUnknown session number) r = refl
refused_report a status.Memory r = refl
refused_report a status.Done r = absurd r
refused_report a status.Refused r = absurd r
refused_report a status.OutputFailed r = absurd r

pub fault_report : (a : ProgramAnswer) (s result : Status) → IsFault s → (result ≡ s) ⊎ (result ≡ status.Memory) → report_lines a result ≡ fault_lines result
fault_report a s result r (inl e) = refused_report a result (subst IsFault (sym e) r)
fault_report a s result r (inr e) = ap (report_lines a) e ∙ ap fault_lines (sym e)
