-- What callers cite of names that are drawn.
use Rattle.std.proofs.Common.{◌≡◌, ◌≢◌, ◌≤◌, ◌<◌, ◌+◌, ◌^◌, ℕ, List, Option, Some, None, option_map, refl, sym, ap, ◌∙◌, subst, inl, inr, arith}
use Rattle.std.specs.FinMap as map
use Rattle.std.specs.Option.{ForSome}
use Rattle.store_core.specs.Files.{Files, MayAdd, bytes_of, with_file}
use Rattle.table_names.specs.Drawing.{Draws, name_in_folder}
use Rattle.table_names.specs.FileNames.{NoneFrom, data_name, metadata_name}
use Rattle.table_names.specs.declared.names.Names.{Names}
use Rattle.table_names.specs.declared.puts.Folder.{Folder}
use Rattle.table_names.specs.declared.puts.Folder.TheVariants as folder
use Rattle.table_names.proofs.Apart.{after_data, after_metadata, stays}

-- ---- one call after another

-- no name is drawn, and no file comes
pub draws_none : (most : ℕ) (name_at : ℕ → List ℕ) (table : List ℕ) (names : Names) (old new : Option Files)
    → new ≡ old → ForSome old (NoneFrom table names.run names.session names.next) → Draws most name_at table names names old new
draws_none most name_at table names old new same free = record {
  run = refl;
  session = refl;
  raised = omega arith;
  few = omega arith;
  free = λ told is. free told (sym same ∙ is);
  others = λ name other. ap (λ (files : Option Files). bytes_of files name) same;
}

-- at most so many are at most more
pub draws_more : (most more : ℕ) (name_at : ℕ → List ℕ) (table : List ℕ) (before after : Names) (old new : Option Files)
    → most ≤ more → Draws most name_at table before after old new → Draws more name_at table before after old new
draws_more most more name_at table before after old new fits draws =
    let few : after.next ≤ before.next + most = draws.few in
    record {
      run = draws.run;
      session = draws.session;
      raised = draws.raised;
      few = omega arith;
      free = draws.free;
      others = draws.others;
    }

-- the names of a folder are the same, of names of one run and session
pub same_names : (at : Folder) (table : List ℕ) (before between : Names) → between.run ≡ before.run → between.session ≡ before.session
    → (n : ℕ) → name_in_folder at table between n ≡ name_in_folder at table before n
same_names folder.Data table before between run session n =
    ap (λ r. data_name table r between.session n) run ∙ ap (λ (s : List ℕ). data_name table before.run s n) session
same_names folder.Metadata table before between run session n =
    ap (λ r. metadata_name table r between.session n) run ∙ ap (λ (s : List ℕ). metadata_name table before.run s n) session

-- names that are drawn, and then others, which are the same names by their numbers
pub draws_then : (most more : ℕ) (name_at later_at : ℕ → List ℕ) (table : List ℕ) (before between after : Names) (old middle new : Option Files)
    → ((n : ℕ) → later_at n ≡ name_at n) → Draws most name_at table before between old middle → Draws more later_at table between after middle new
    → Draws (most + more) name_at table before after old new
draws_then most more name_at later_at table before between after old middle new same first second =
    let raised : before.next ≤ between.next = first.raised in
    let raised_later : between.next ≤ after.next = second.raised in
    let few : between.next ≤ before.next + most = first.few in
    let few_later : after.next ≤ between.next + more = second.few in
    record {
      run = second.run ∙ first.run;
      session = second.session ∙ first.session;
      raised = omega arith;
      few = omega arith;
      free = second.free;
      others = λ name other.
          second.others name (λ n from below e. other n (omega arith) below (e ∙ same n))
          ∙ first.others name (λ n from below e. other n from (omega arith) e);
    }

-- of one folder
pub draws_then-folder : (most more : ℕ) (at : Folder) (table : List ℕ) (before between after : Names) (old middle new : Option Files)
    → Draws most (name_in_folder at table before) table before between old middle
    → Draws more (name_in_folder at table between) table between after middle new
    → Draws (most + more) (name_in_folder at table before) table before after old new
draws_then-folder most more at table before between after old middle new first second =
    draws_then most more (name_in_folder at table before) (name_in_folder at table between) table before between after old middle new
    (same_names at table before between first.run first.session) first second

-- ---- a put under the next name

module _ (table : List ℕ) (names : Names) where
  -- the names behind one that is drawn
  abbrev behind : Names
  behind = record names { next = names.next + 1 }

  abbrev Free : ℕ → Option Files → Type 0
  Free next files = ForSome files (NoneFrom table names.run names.session next)

  none_behind : (files : Files) → NoneFrom table names.run names.session names.next files
      → NoneFrom table names.run names.session (names.next + 1) files
  none_behind files none = record {
    data_free = λ n above fits. none.data_free n (omega arith) fits;
    metadata_free = λ n above fits. none.metadata_free n (omega arith) fits;
  }

  none_with : (at : Folder) (bytes : List ℕ) (files : Files) → NoneFrom table names.run names.session names.next files
      → NoneFrom table names.run names.session (names.next + 1) (with_file (name_in_folder at table names names.next) bytes files)
  none_with folder.Data bytes files none = after_data table names.session bytes names.run names.next files none
  none_with folder.Metadata bytes files none = after_metadata table names.session bytes names.run names.next files none

  free_with : (at : Folder) (bytes : List ℕ) (old new : Option Files)
      → new ≡ option_map (with_file (name_in_folder at table names names.next) bytes) old → Free names.next old → Free (names.next + 1) new
  free_with at bytes (Some files) new is free = λ told is_told.
      let both : Some (with_file (name_in_folder at table names names.next) bytes files) ≡ Some told = sym is ∙ is_told in
      let same : with_file (name_in_folder at table names names.next) bytes files ≡ told = cc in
      subst (NoneFrom table names.run names.session (names.next + 1)) same (none_with at bytes files (free files refl))
  free_with at bytes None new is free = λ told is_told.
      let both : None ≡ Some told = sym is ∙ is_told in
      absurd cc

  others_with : (name bytes other : List ℕ) (old new : Option Files) → new ≡ option_map (with_file name bytes) old → other ≢ name
      → bytes_of new other ≡ bytes_of old other
  others_with name bytes other (Some files) new is apart = ap (λ (held : Option Files). bytes_of held other) is ∙ stays files name bytes other apart
  others_with name bytes other None new is apart = ap (λ (held : Option Files). bytes_of held other) is

  -- a name is drawn, and no file comes
  drawn_none : (name_at : ℕ → List ℕ) (old new : Option Files) → new ≡ old → Free names.next old → Draws 1 name_at table names behind old new
  drawn_none name_at old new same free = record {
    run = refl;
    session = refl;
    raised = omega arith;
    few = omega arith;
    free = λ told is. none_behind told (free told (sym same ∙ is));
    others = λ name other. ap (λ (files : Option Files). bytes_of files name) same;
  }

  drawn_with : (at : Folder) (bytes : List ℕ) (old new : Option Files)
      → new ≡ option_map (with_file (name_in_folder at table names names.next) bytes) old → Free names.next old
      → Draws 1 (name_in_folder at table names) table names behind old new
  drawn_with at bytes old new is free = record {
    run = refl;
    session = refl;
    raised = omega arith;
    few = omega arith;
    free = free_with at bytes old new is free;
    others = λ name other.
        others_with (name_in_folder at table names names.next) bytes name old new is (other names.next (omega arith) (omega arith));
  }

  drawn_may : (at : Folder) (old new : Option Files) → MayAdd (name_in_folder at table names names.next) old new → Free names.next old
      → Draws 1 (name_in_folder at table names) table names behind old new
  drawn_may at old new (inl same) free = drawn_none (name_in_folder at table names) old new same free
  drawn_may at old new (inr (bytes, is)) free = drawn_with at bytes old new is free

  pub draws_only : (name_at : ℕ → List ℕ) (after : Names) (files : Option Files) → after ≡ behind → Free names.next files
      → Draws 1 name_at table names after files files
  draws_only name_at after files drawn free =
      subst (λ (last : Names). Draws 1 name_at table names last files files) (sym drawn) (drawn_none name_at files files refl free)

  -- a name is drawn, and its file may have come
  pub draws_put : (at : Folder) (after : Names) (old new : Option Files) → after ≡ behind
      → MayAdd (name_in_folder at table names names.next) old new → Free names.next old
      → Draws 1 (name_in_folder at table names) table names after old new
  draws_put at after old new drawn may free =
      subst (λ (last : Names). Draws 1 (name_in_folder at table names) table names last old new) (sym drawn) (drawn_may at old new may free)

-- the next name of a folder is free
pub next_is_free : (at : Folder) (table : List ℕ) (names : Names) (files : Files) → names.next < 2 ^ 128
    → NoneFrom table names.run names.session names.next files → map.get files (name_in_folder at table names names.next) ≡ None
next_is_free folder.Data table names files fits none = none.data_free names.next (omega arith) fits
next_is_free folder.Metadata table names files fits none = none.metadata_free names.next (omega arith) fits
