-- Names that differ in their number, their session or their folder are different, so a file under one leaves the others free.
use Rattle.std.proofs.Common.{◌≡◌, ◌≢◌, ◌≤◌, ◌<◌, ◌+◌, ◌^◌, ℕ, List, [], ◌∷◌, ◌++◌, get_or, codes, Bool, true, false, cond, Some, refl, sym, ap, ◌∙◌, arith}
use Rattle.std.specs.FinMap as map
use Rattle.std.specs.FinMap.{get-insert}
use Rattle.std.specs.Fmt.{decimal}
use Rattle.std.specs.Str.{bytes_eq}
use Rattle.std.specs.Str.Parse.{digits_value}
use Rattle.std.proofs.lemmas.Cmp.{nat_list_cmp_total}
use Rattle.std.proofs.lemmas.Fmt.{decimal_is_IsNumeral_wide}
use Rattle.std.proofs.lemmas.List.{append_cancel_left, append_cancel_right}
use Rattle.std.proofs.lemmas.Map.Text.{is_eq-slice_cmp}
use Rattle.std.proofs.lemmas.Slice.Eq.{bytes_eq-Decides}
use Rattle.store_core.specs.Files.{Files, with_file}
use Rattle.table_names.specs.FileNames.{HasNoHyphen, NoneFrom, data_name, metadata_name, named}

-- ---- another file

-- what stands under another name stays
stays_by : (files : Files) (name bytes other : List ℕ) → other ≢ name → (b : Bool) → bytes_eq other name ≡ b
    → cond b (Some bytes) (map.get files other) ≡ map.get files other
stays_by files name bytes other apart true is = absurd (apart ((bytes_eq-Decides other name).0 is))
stays_by files name bytes other apart false is = refl

pub stays : (files : Files) (name bytes other : List ℕ) → other ≢ name → map.get (with_file name bytes files) other ≡ map.get files other
stays files name bytes other apart =
    get-insert nat_list_cmp_total files name bytes other
    ∙ ap (λ b. cond b (Some bytes) (map.get files other)) (is_eq-slice_cmp other name)
    ∙ stays_by files name bytes other apart (bytes_eq other name) refl

-- ---- numbers

same_number : (m n : ℕ) → m < 2 ^ 128 → n < 2 ^ 128 → decimal m ≡ decimal n → m ≡ n
same_number m n m_fits n_fits e =
    sym (decimal_is_IsNumeral_wide m (omega arith)).1 ∙ ap (digits_value 10) e ∙ (decimal_is_IsNumeral_wide n (omega arith)).1

abbrev ending : List ℕ
ending = codes ".avro"

-- the same run and session
same_texts : (run : ℕ) (session : List ℕ) (m n : ℕ) → named run session m ending ≡ named run session n ending → decimal m ≡ decimal n
same_texts run session m n e =
    append_cancel_right (decimal m) (decimal n) ending
    (append_cancel_left (codes "-") (decimal m ++ ending) (decimal n ++ ending)
    (append_cancel_left session (codes "-" ++ (decimal m ++ ending)) (codes "-" ++ (decimal n ++ ending))
    (append_cancel_left (codes "-") (session ++ (codes "-" ++ (decimal m ++ ending))) (session ++ (codes "-" ++ (decimal n ++ ending)))
    (append_cancel_left (decimal run) (codes "-" ++ (session ++ (codes "-" ++ (decimal m ++ ending)))) (codes "-" ++ (session ++ (codes "-" ++ (decimal n ++ ending)))) e))))

-- names of one folder are those of one text
text_in : (table folder first second : List ℕ) → table ++ (folder ++ first) ≡ table ++ (folder ++ second) → first ≡ second
text_in table folder first second e = append_cancel_left folder first second (append_cancel_left table (folder ++ first) (folder ++ second) e)

-- no name is of both folders
folders_apart : (table first second : List ℕ) → table ++ (codes "/data/r" ++ first) ≢ table ++ (codes "/metadata/r" ++ second)
folders_apart table first second e =
    let letter : ◌≡◌ {A = ℕ} 100 109 = ap (λ text. get_or text 1 0) (append_cancel_left table (codes "/data/r" ++ first) (codes "/metadata/r" ++ second) e) in
    omega arith

-- ---- sessions

-- where two texts without a hyphen are followed by one, they are the same
same_session : (first second after before : List ℕ) → HasNoHyphen first → HasNoHyphen second
    → first ++ (codes "-" ++ after) ≡ second ++ (codes "-" ++ before) → first ≡ second
same_session [] [] after before f s e = refl
same_session [] (b ∷ bs) after before f s e = absurd (s.0 cc)
same_session (b ∷ bs) [] after before f s e = absurd (f.0 cc)
same_session (b ∷ bs) (c ∷ cs) after before f s e =
    let head : b ≡ c = cc in
    let rest : bs ++ (codes "-" ++ after) ≡ cs ++ (codes "-" ++ before) = cc in
    ap (λ x. x ∷ bs) head ∙ ap (λ xs. c ∷ xs) (same_session bs cs after before f.1 s.1 rest)

sessions_apart : (run : ℕ) (session other : List ℕ) (m n : ℕ) → HasNoHyphen session → HasNoHyphen other
    → named run session m ending ≡ named run other n ending → session ≡ other
sessions_apart run session other m n f s e =
    same_session session other (decimal m ++ ending) (decimal n ++ ending) f s
    (append_cancel_left (codes "-") (session ++ (codes "-" ++ (decimal m ++ ending))) (other ++ (codes "-" ++ (decimal n ++ ending)))
    (append_cancel_left (decimal run) (codes "-" ++ (session ++ (codes "-" ++ (decimal m ++ ending)))) (codes "-" ++ (other ++ (codes "-" ++ (decimal n ++ ending)))) e))

-- ---- the laws

module _ (table session bytes : List ℕ) (run n : ℕ) (files : Files) (none : NoneFrom table run session n files) where
  later_apart : (m : ℕ) → n + 1 ≤ m → m < 2 ^ 128 → named run session m ending ≢ named run session n ending
  later_apart m above m_fits e =
      let same = same_number m n m_fits (omega arith) (same_texts run session m n e) in
      omega arith

  pub after_data : NoneFrom table run session (n + 1) (with_file (data_name table run session n) bytes files)
  after_data = record {
    data_free = λ m above m_fits. stays files (data_name table run session n) bytes (data_name table run session m) (λ e. later_apart m above m_fits (text_in table (codes "/data/r") (named run session m ending) (named run session n ending) e)) ∙ none.data_free m (omega arith) m_fits;
    metadata_free = λ m above m_fits. stays files (data_name table run session n) bytes (metadata_name table run session m) (λ e. folders_apart table (named run session n ending) (named run session m ending) (sym e)) ∙ none.metadata_free m (omega arith) m_fits;
  }

  pub after_metadata : NoneFrom table run session (n + 1) (with_file (metadata_name table run session n) bytes files)
  after_metadata = record {
    data_free = λ m above m_fits. stays files (metadata_name table run session n) bytes (data_name table run session m) (λ e. folders_apart table (named run session m ending) (named run session n ending) e) ∙ none.data_free m (omega arith) m_fits;
    metadata_free = λ m above m_fits. stays files (metadata_name table run session n) bytes (metadata_name table run session m)
        (λ e. later_apart m above m_fits (text_in table (codes "/metadata/r") (named run session m ending) (named run session n ending) e))
        ∙ none.metadata_free m (omega arith) m_fits;
  }

module _ (table session other bytes : List ℕ) (run from n : ℕ) (files : Files) (f : HasNoHyphen session) (s : HasNoHyphen other) (differ : session ≢ other) (none : NoneFrom table run session from files) where
  pub beside_data : NoneFrom table run session from (with_file (data_name table run other n) bytes files)
  beside_data = record {
    data_free = λ m above m_fits. stays files (data_name table run other n) bytes (data_name table run session m) (λ e. differ (sessions_apart run session other m n f s (text_in table (codes "/data/r") (named run session m ending) (named run other n ending) e))) ∙ none.data_free m above m_fits;
    metadata_free = λ m above m_fits. stays files (data_name table run other n) bytes (metadata_name table run session m) (λ e. folders_apart table (named run other n ending) (named run session m ending) (sym e)) ∙ none.metadata_free m above m_fits;
  }

  pub beside_metadata : NoneFrom table run session from (with_file (metadata_name table run other n) bytes files)
  beside_metadata = record {
    data_free = λ m above m_fits. stays files (metadata_name table run other n) bytes (data_name table run session m) (λ e. folders_apart table (named run session m ending) (named run other n ending) e) ∙ none.data_free m above m_fits;
    metadata_free = λ m above m_fits. stays files (metadata_name table run other n) bytes (metadata_name table run session m)
        (λ e. differ (sessions_apart run session other m n f s
        (text_in table (codes "/metadata/r") (named run session m ending) (named run other n ending) e))) ∙ none.metadata_free m above m_fits;
  }

-- names of data files with other numbers
pub data_names_apart : (table session : List ℕ) (run m n : ℕ) → m < 2 ^ 128 → n < 2 ^ 128 → m ≢ n
    → data_name table run session m ≢ data_name table run session n
data_names_apart table session run m n m_fits n_fits apart e =
    apart (same_number m n m_fits n_fits (same_texts run session m n (text_in table (codes "/data/r") (named run session m ending) (named run session n ending) e)))

-- what stands under the name of a file
pub stands : (files : Files) (name bytes : List ℕ) → map.get (with_file name bytes files) name ≡ Some bytes
stands files name bytes =
    get-insert nat_list_cmp_total files name bytes name
    ∙ ap (λ b. cond b (Some bytes) (map.get files name)) (is_eq-slice_cmp name name ∙ (bytes_eq-Decides name name).1 refl)
