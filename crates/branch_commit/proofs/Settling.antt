-- What the bytes under a name say of a swap that failed.
use Rattle.std.proofs.Common.{◌≡◌, ◌≢◌, ℕ, List, Option, Some, None, Bool, true, false, cond, is_some, nat_eq, refl, sym, ap, ◌∙◌, ◌⊎◌, inl, inr, true≢false, option_map, Result, Ok, Err, IfOk, IsErrOf}
use Rattle.std.specs.FinMap as map
use Rattle.std.specs.FinMap.{get-insert}
use Rattle.std.specs.Option.{ForSome}
use Rattle.std.specs.Cmp.Lexicographic.{pointwise}
use Rattle.std.proofs.lemmas.Cmp.{nat_list_cmp_total}
use Rattle.std.proofs.lemmas.Map.Text.{is_eq-slice_cmp}
use Rattle.std.proofs.lemmas.Slice.Eq.{bytes_eq-Decides}
use Rattle.plain_types.proofs.CallerLemmas.{Tells-texts}
use Rattle.store_core.specs.Files.{Files, with_file, swapped}
use Rattle.store_core.specs.Answers.{is_lost}
use Rattle.store_core.specs.declared.store.SwapAnswer.{SwapAnswer}
use Rattle.store_core.specs.declared.store.SwapAnswer.TheVariants.{Won, Lost}
use Rattle.branch_commit.specs.Settled.{seen, Leaves}
use Rattle.branch_commit.specs.declared.swapping.SwapFault.{SwapFault}
use Rattle.branch_commit.specs.declared.swapping.SwapFault.TheVariants as fault

-- a file more is there
there : (files : Files) (name bytes : List ℕ) → map.get (with_file name bytes files) name ≡ Some bytes
there files name bytes =
    get-insert nat_list_cmp_total files name bytes name
    ∙ ap (λ b. cond b (Some bytes) (map.get files name)) (is_eq-slice_cmp name name ∙ (bytes_eq-Decides name name).1 refl)

won_by : (bytes : List ℕ) (b : Bool) → pointwise nat_eq bytes bytes ≡ b → (answer : SwapAnswer) → Some (cond b Won Lost) ≡ Some answer → is_lost answer ≡ false
won_by bytes true is answer e = cc
won_by bytes false is answer e = absurd (true≢false (sym (Tells-texts.itself bytes) ∙ is))

lost_by : (bytes found : List ℕ) → Some found ≢ Some bytes → (b : Bool) → pointwise nat_eq found bytes ≡ b → (answer : SwapAnswer)
    → Some (cond b Won Lost) ≡ Some answer → is_lost answer ≡ true
lost_by bytes found other true is answer e = absurd (other (ap (λ (text : List ℕ). Some text) (Tells-texts.means found bytes is)))
lost_by bytes found other false is answer e = cc

-- the files behind a failed swap, by what stood under the name
abbrev middle : Option (List ℕ) → List ℕ → List ℕ → Files → Files
middle held name bytes files = cond (is_some held) files (with_file name bytes files)

told_by : (files : Files) (name bytes : List ℕ) (held : Option (List ℕ)) → map.get files name ≡ held → held ≢ Some bytes
    → (now : Files) → (now ≡ files) ⊎ (now ≡ middle held name bytes files) → (answer : SwapAnswer)
    → seen bytes (map.get now name) ≡ Some answer → is_lost answer ≡ is_some held
told_by files name bytes None is other now (inl same) answer e = absurd cc
told_by files name bytes None is other now (inr new) answer e =
    won_by bytes (pointwise nat_eq bytes bytes) refl answer (sym (ap (seen bytes) (ap (λ (f : Files). map.get f name) new ∙ there files name bytes)) ∙ e)
told_by files name bytes (Some found) is other now (inl same) answer e =
    lost_by bytes found other (pointwise nat_eq found bytes) refl answer (sym (ap (seen bytes) (ap (λ (f : Files). map.get f name) same ∙ is)) ∙ e)
told_by files name bytes (Some found) is other now (inr same) answer e =
    lost_by bytes found other (pointwise nat_eq found bytes) refl answer (sym (ap (seen bytes) (ap (λ (f : Files). map.get f name) same ∙ is)) ∙ e)

-- an answer that the name gave says whether it was there before
pub answered : (files : Files) (name bytes : List ℕ) → map.get files name ≢ Some bytes → (now : Files)
    → (now ≡ files) ⊎ (now ≡ swapped name bytes files) → (answer : SwapAnswer) → seen bytes (map.get now name) ≡ Some answer
    → is_lost answer ≡ map.contains_key files name
answered files name bytes other now behind answer e = told_by files name bytes (map.get files name) refl other now behind answer e

after_by : (files : Files) (name bytes : List ℕ) (held : Option (List ℕ)) → map.get files name ≡ held → (now : Files)
    → (now ≡ files) ⊎ (now ≡ middle held name bytes files) → (answer : SwapAnswer) → seen bytes (map.get now name) ≡ Some answer
    → now ≡ middle held name bytes files
after_by files name bytes None is now (inl same) answer e = absurd cc
after_by files name bytes None is now (inr new) answer e = new
after_by files name bytes (Some found) is now (inl same) answer e = same
after_by files name bytes (Some found) is now (inr same) answer e = same

-- where the name gave an answer, the files are those after a swap
pub after : (files : Files) (name bytes : List ℕ) (now : Files) → (now ≡ files) ⊎ (now ≡ swapped name bytes files)
    → (answer : SwapAnswer) → seen bytes (map.get now name) ≡ Some answer → now ≡ swapped name bytes files
after files name bytes now behind answer e = after_by files name bytes (map.get files name) refl now behind answer e

missing_by : (files : Files) (name bytes : List ℕ) (held : Option (List ℕ)) → map.get files name ≡ held → (now : Files)
    → (now ≡ files) ⊎ (now ≡ middle held name bytes files) → map.get now name ≡ None → now ≡ files
missing_by files name bytes None is now (inl same) none = same
missing_by files name bytes None is now (inr new) none =
    let e : Some bytes ≡ None = sym (there files name bytes) ∙ ap (λ (f : Files). map.get f name) (sym new) ∙ none in
    absurd cc
missing_by files name bytes (Some found) is now (inl same) none = same
missing_by files name bytes (Some found) is now (inr same) none = same

-- where the name is not there, nothing changed
pub missing : (files : Files) (name bytes : List ℕ) (now : Files) → (now ≡ files) ⊎ (now ≡ swapped name bytes files) → map.get now name ≡ None → now ≡ files
missing files name bytes now behind none = missing_by files name bytes (map.get files name) refl now behind none

-- ---- the same of files that may be told

behind : (files now : Files) (name bytes : List ℕ) → (Some now ≡ Some files) ⊎ (Some now ≡ Some (swapped name bytes files))
    → (now ≡ files) ⊎ (now ≡ swapped name bytes files)
behind files now name bytes (inl same) = inl cc
behind files now name bytes (inr new) = inr cc

pub answers : (old now : Option Files) (name bytes : List ℕ) → ForSome old (λ told. map.get told name ≢ Some bytes)
    → (now ≡ old) ⊎ (now ≡ option_map (swapped name bytes) old) → (r : Result SwapAnswer SwapFault)
    → IfOk r (λ answer. ForSome now (λ told. seen bytes (map.get told name) ≡ Some answer))
    → IfOk r (λ answer. ForSome old (λ told. is_lost answer ≡ map.contains_key told name))
answers old now name bytes other after (Err fault) says = tt
answers (Some files) (Some now) name bytes other after (Ok answer) says = λ told is.
    let same : files ≡ told = cc in
    answered files name bytes (other files refl) now (behind files now name bytes after) answer (says now refl) ∙ ap (λ (f : Files). map.contains_key f name) same
answers (Some files) None name bytes other (inl same) (Ok answer) says = absurd cc
answers (Some files) None name bytes other (inr same) (Ok answer) says = absurd cc
answers None now name bytes other after (Ok answer) says = λ told is. absurd cc

pub leaves : (old now : Option Files) (name bytes : List ℕ) → (now ≡ old) ⊎ (now ≡ option_map (swapped name bytes) old)
    → (r : Result SwapAnswer SwapFault) → IfOk r (λ answer. ForSome now (λ told. seen bytes (map.get told name) ≡ Some answer))
    → (IsErrOf r fault.Store → ForSome now (λ told. map.get told name ≡ None)) → Leaves name bytes old now r
leaves old now name bytes is (Err fault.Unknown) says gone = is
leaves old now name bytes is (Err fault.Memory) says gone = is
leaves None now name bytes (inl same) (Err fault.Store) says gone = same
leaves None now name bytes (inr same) (Err fault.Store) says gone = same
leaves (Some files) (Some now) name bytes after (Err fault.Store) says gone = ap (λ (f : Files). Some f) (missing files name bytes now (behind files now name bytes after) (gone refl now refl))
leaves (Some files) None name bytes (inl same) (Err fault.Store) says gone = same
leaves (Some files) None name bytes (inr same) (Err fault.Store) says gone = absurd cc
leaves None now name bytes (inl same) (Ok answer) says gone = same
leaves None now name bytes (inr same) (Ok answer) says gone = same
leaves (Some files) (Some now) name bytes behind_it (Ok answer) says gone = ap (λ (f : Files). Some f) (after files name bytes now (behind files now name bytes behind_it) answer (says now refl))
leaves (Some files) None name bytes (inl same) (Ok answer) says gone = absurd cc
leaves (Some files) None name bytes (inr same) (Ok answer) says gone = absurd cc
