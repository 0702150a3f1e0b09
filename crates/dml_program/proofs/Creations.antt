-- The steps of `create`, one after another.
use Rattle.std.proofs.Common.{◌≡◌, inl, inr, ℕ, ℤ, List, Option, None, Result, Ok, true≢false, is_some, sym, ap, subst, ◌∙◌, arith}
use Rattle.std.specs.FinMap as map
use Rattle.plain_types.specs.Steps.{◌>>=◌}
use Rattle.store_core.specs.Files.{Files}
use Rattle.store_core.specs.Answers.{is_lost}
use Rattle.store_core.specs.declared.store.SwapAnswer.TheVariants.{Lost}
use Rattle.table_definition.specs.Definition.{Asked}
use Rattle.table_definition.specs.FirstText.{first_text}
use Rattle.table_names.specs.Versions.{version_name, version_of}
use Rattle.table_names.proofs.CallerLemmas.{all_are_missing}
use Rattle.dml_program.specs.Answers.{Carries, LeavesAnswered, create_answer}
use Rattle.dml_program.specs.Creating.{StopsAt, asked_by, file_given, first_version_of, may_be_made}
use Rattle.dml_program.specs.declared.status.Status.{Status}
use Rattle.dml_program.specs.declared.status.Status.TheVariants as status

pub first_is : (table name : List ℕ) (files inputs : Files) (now : ℤ) (bytes : Option (List ℕ)) (a : Asked)
    → file_given name inputs ≡ Ok bytes → may_be_made table files ≡ Ok tt → asked_by bytes ≡ Ok a
    → first_version_of table name files inputs now ≡ Ok (first_text table now a)
unfolding first_version_of
first_is table name files inputs now bytes a given place asks =
    ap (λ (r : Result (Option (List ℕ)) Status). r >>= λ bytes. may_be_made table files >>= λ _. asked_by bytes >>= λ asked. Ok (first_text table now asked)) given
    ∙ ap (λ (r : Result Unit Status). r >>= λ _. asked_by bytes >>= λ asked. Ok (first_text table now asked)) place
    ∙ ap (λ (r : Result Asked Status). r >>= λ asked. Ok (first_text table now asked)) asks

-- what the bytes are where a call stopped
pub stopped : (failed : Type 0) (table : List ℕ) (files : Files) (wanted : Result (List ℕ) Status) (s : Status)
    → StopsAt failed wanted s → Carries failed (create_answer table files wanted) s
stopped failed table files wanted (status.ScriptBad line sort) e = ap (create_answer table files) e
stopped failed table files wanted (status.TableBad kind path) e = ap (create_answer table files) e
stopped failed table files wanted status.StoreFailed e = tt
stopped failed table files wanted (status.InputFailed name) (inl rose) = inl rose
stopped failed table files wanted (status.InputFailed name) (inr e) = inr (ap (create_answer table files) e)
stopped failed table files wanted (status.StateUnknown session number) e = tt
stopped failed table files wanted status.Memory e = tt
stopped failed table files wanted status.Done e = absurd e
stopped failed table files wanted status.Refused e = absurd e
stopped failed table files wanted status.Usage e = absurd e
stopped failed table files wanted status.OutputFailed e = absurd e

-- a table without a version has no first version
pub no_first : (table : List ℕ) (files : Files) → version_of table files ≡ None → map.get files (version_name table 1) ≡ None
no_first table files none = all_are_missing table files 1 none (omega arith) (omega arith)

-- and so its swap is not lost
pub not_lost : {X : Type 0} (table name : List ℕ) (files : Files) → version_of table files ≡ None → name ≡ version_name table 1
    → is_lost Lost ≡ map.contains_key files name → X
not_lost table name files none is lost =
    absurd (true≢false (lost ∙ ap (λ n. map.contains_key files n) is ∙ ap is_some (no_first table files none)))

pub leaves_by : (table : List ℕ) (files : Files) (wanted : Result (List ℕ) Status) (text : List ℕ) (s : Status)
    (new : Option Files) → wanted ≡ Ok text → LeavesAnswered (create_answer table files (Ok text)) s files new
    → LeavesAnswered (create_answer table files wanted) s files new
leaves_by table files wanted text s new is left = subst (λ w. LeavesAnswered (create_answer table files w) s files new) (sym is) left

pub carries_by : (failed : Type 0) (table : List ℕ) (files : Files) (wanted : Result (List ℕ) Status) (text : List ℕ) (s : Status)
    → wanted ≡ Ok text → Carries ⊥ (create_answer table files (Ok text)) s → Carries failed (create_answer table files wanted) s
carries_by failed table files wanted text s is carried = lifted s (subst (λ w. Carries ⊥ (create_answer table files w) s) (sym is) carried)
  where
    lifted : (s : Status) → Carries ⊥ (create_answer table files wanted) s → Carries failed (create_answer table files wanted) s
    lifted status.Done c = c
    lifted status.Refused c = c
    lifted status.Usage c = c
    lifted (status.ScriptBad line sort) c = c
    lifted (status.TableBad kind path) c = c
    lifted status.StoreFailed c = c
    lifted (status.InputFailed name) (inl none) = absurd none
    lifted (status.InputFailed name) (inr e) = inr e
    lifted status.OutputFailed c = c
    lifted (status.StateUnknown session number) c = c
    lifted status.Memory c = c
