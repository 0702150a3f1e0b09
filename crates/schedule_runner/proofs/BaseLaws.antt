-- Nothing stands against a statement on its own base.
use Rattle.std.proofs.Common.{◌≡◌, Bool, true, false, if◌then◌else◌, cond, inl, inr, List, [], ◌∷◌, refl, sym, ap, ◌∙◌}
use Rattle.manifest_files.specs.declared.entry.Entry.{Entry}
use Rattle.plain_types.specs.Bags.{In}
use Rattle.table_state.specs.declared.live_set.BranchState.{BranchState}
use Rattle.table_state.specs.Live.{data_files_of}
use Rattle.change_sets.specs.declared.change.Plan.{Plan}
use Rattle.change_sets.specs.declared.said.Said.TheVariants as said
use Rattle.change_sets.specs.Laid.{without}
use Rattle.change_sets.specs.Same.{is_among, same_file}
use Rattle.change_sets.specs.Verdict.{conflict_by, gained, is_absent, least_from, least_path, lost, of_branch, of_files, or_else, verdict}
use Rattle.change_sets.specs.declared.rule.Rule.TheVariants.{V1, V2}
use Rattle.table_scan.proofs.CallerLemmas.{itself}

-- an entry of the list is of a file among theirs
pub among_its_own : (entry : Entry) (entries : List Entry) → In entry entries → is_among entries entry ≡ true
unfolding is_among
among_its_own entry [] there = absurd there
among_its_own entry (one ∷ entries) (inl here) = rw (sym here, itself entry) refl
among_its_own entry (one ∷ entries) (inr later) = by (same_file one entry) (among_its_own entry entries later)
  where
    by : (b : Bool) → is_among entries entry ≡ true → cond b true (is_among entries entry) ≡ true
    by true found = refl
    by false found = found

-- less all of them, nothing is left
pub without-all : (removed entries : List Entry) → ((entry : Entry) → In entry entries → In entry removed) → without removed entries ≡ []
without-all removed [] all = refl
without-all removed (entry ∷ entries) all =
    rw (among_its_own entry removed (all entry (inl refl))) (without-all removed entries (λ other there. all other (inr there)))

none_lost : (depended head : List Entry) → ((entry : Entry) → In entry depended → In entry head) → lost depended head ≡ said.Good
unfolding least_from
none_lost depended head all = ap (λ files. conflict_by V2 (least_path files)) (without-all head depended all)

none_gained : (serializable : Bool) (files : List Entry) → gained serializable files files ≡ said.Good
unfolding least_from
none_gained true files = ap (λ gone. conflict_by V1 (least_path gone)) (without-all files files (λ entry there. there))
none_gained false files = refl

good_files : (serializable : Bool) (depended files : List Entry) → ((entry : Entry) → In entry depended → In entry files)
    → of_files serializable depended files files ≡ said.Good
good_files serializable depended files all =
    ap (λ found. or_else found (gained serializable files files)) (none_lost depended files all) ∙ none_gained serializable files

pub good_on_its_base : (plan : Plan) (depended : List Entry) (head : BranchState) → plan.creates ≡ false → is_absent head ≡ false
    → ((entry : Entry) → In entry depended → In entry (data_files_of head)) → verdict plan depended (data_files_of head) head ≡ said.Good
good_on_its_base plan depended head is there all = rw (is, there) (by plan.only_branch)
  where
    by : (b : Bool) → (if b then of_branch false plan.branch
        else of_files plan.serializable depended (data_files_of head) (data_files_of head)) ≡ said.Good
    by true = refl
    by false = good_files plan.serializable depended (data_files_of head) all
