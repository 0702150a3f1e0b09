-- A script that was read has at most one session, with a plain name, and its statements are of the columns.
use Rattle.std.proofs.Common.{◌≡◌, ◌≤◌, ℕ, nat_lt, List, [], ◌∷◌, length, length-append, Option, Some, None, Ok, Err, refl, subst, arith}
use Rattle.std.specs.Prelude.{⊤}
use Rattle.std.specs.List.{AllByRecursion}
use Rattle.std.specs.Str.{is_utf8, IsUtf8}
use Rattle.plain_types.specs.Steps.{◌>>=◌}
use Rattle.row_values.specs.declared.schema.Column.{Column}
use Rattle.row_values.specs.declared.schema.TableSchema.{TableSchema}
use Rattle.script_words.specs.declared.word.Placed.{Placed}
use Rattle.script_words.specs.Words.{words_of}
use Rattle.sql_statements.specs.declared.statement.Statement.{Statement}
use Rattle.dml_parser.specs.declared.raw.Item.{Item}
use Rattle.dml_parser.specs.declared.raw.Item.TheVariants as item
use Rattle.dml_parser.specs.declared.read.Progress.{Progress}
use Rattle.dml_parser.specs.declared.script.Script.{Script}
use Rattle.dml_parser.specs.declared.script.SessionItem.{SessionItem}
use Rattle.dml_parser.specs.declared.script.ScriptFault.TheVariants as fault
use Rattle.dml_parser.specs.Front.{line_of}
use Rattle.dml_parser.specs.Grammar.{item_at}
use Rattle.dml_parser.specs.Items.{delete_of, insert_of}
use Rattle.dml_parser.specs.Read.{AreNamed, AreRead, HasNo, IsPlainName, IsRead, IsShort}
use Rattle.dml_parser.specs.Script.{after_item, ends, read_item, read_items, script_in, script_in_text, script_of, sessions_of, started, tokens_stand, with_session, with_statement, within}
use Rattle.dml_parser.specs.Values.{text_of}
use Rattle.dml_parser.proofs.FormLaws.{IsFormed, item_is_formed}
use Rattle.dml_parser.proofs.ItemLaws.{IsOneMore, delete_is_read, insert_is_read}
use Rattle.dml_parser.proofs.NameLaws.{plain_has_no_hyphen, plain_has_no_slash, plain_is_utf8}
use Rattle.dml_parser.proofs.Stepwise.{all_pushed, carried, either}
use Rattle.plain_types.proofs.CallerLemmas.{one_value, two_steps}

-- ---- what was read so far

abbrev IsNamed : Option (List ℕ) → Type 0
IsNamed None = ⊤
IsNamed (Some name) = IsPlainName name

record IsProgress (columns : List Column) (p : Progress) : Type 0 where
  named : IsNamed p.session
  read : AllByRecursion (IsRead columns) p.statements
  room : length p.statements ≤ 4096

begun : (columns : List Column) → IsProgress columns started
begun columns = record { named = tt; read = tt; room = omega arith }

after_session : (columns : List Column) (p after : Progress) (name : List ℕ) → IsPlainName name → IsProgress columns p
    → (text_of name >>= λ text. Ok (with_session p text)) ≡ Ok after → IsProgress columns after
after_session columns p after name plain is h =
    let text = two_steps (text_of name) (λ text. Ok (with_session p text)) after h in
    let same = either (is_utf8 name) (Ok name) (Err fault.Text) text.0 (λ _ e. one_value name text.0 (Ok name) refl e) (λ _ e. cc) text.1 in
    carried (IsProgress columns) (with_session p text.0) after text.2
    (record { named = subst IsPlainName same plain; read = is.read; room = is.room })

one_more : (columns : List Column) (p : Progress) (s : Statement) → IsProgress columns p
    → IsOneMore columns (length p.statements) s → IsProgress columns (with_statement p s)
one_more columns p s is more = record {
  named = is.named;
  read = all_pushed (IsRead columns) p.statements s is.read more.read;
  room = let longer = length-append p.statements (s ∷ []) in let room = more.room in omega (arith, longer, room);
}

after_formed : (columns : List Column) (p after : Progress) (line : ℕ) (i : Item) → IsFormed columns i → IsProgress columns p
    → after_item columns p line i ≡ Ok after → IsProgress columns after
unfolding after_item
after_formed columns p after line (item.Session name) formed is h = after_session columns p after name formed is h
after_formed columns p after line (item.Insert rows) formed is h =
    let s = two_steps (insert_of columns (length p.statements) line rows) (λ s. Ok (with_statement p s)) after h in
    carried (IsProgress columns) (with_statement p s.0) after s.2
    (one_more columns p s.0 is (insert_is_read columns (length p.statements) line rows s.0 formed s.1))
after_formed columns p after line (item.Delete equality) formed is h =
    let s = two_steps (delete_of columns (length p.statements) line equality) (λ s. Ok (with_statement p s)) after h in
    carried (IsProgress columns) (with_statement p s.0) after s.2
    (one_more columns p s.0 is (delete_is_read columns (length p.statements) line equality s.0 s.1))

abbrev IsProgressOf : List Column → Progress × List Placed → Type 0
IsProgressOf columns x = IsProgress columns x.0

after_one : (columns : List Column) (p : Progress) (words : List Placed) (x : Progress × List Placed) → IsProgress columns p
    → read_item columns p words ≡ Ok x → IsProgressOf columns x
unfolding read_item
after_one columns p words x is h =
    let tokens = two_steps (tokens_stand words) _ x h in
    let i = two_steps (item_at columns (within p.session) words) _ x tokens.2 in
    let after = two_steps (after_item columns p (line_of words) i.0.0) _ x i.2 in
    carried (IsProgressOf columns) (after.0, i.0.1) x after.2
    (after_formed columns p after.0 (line_of words) i.0.0 (item_is_formed columns (within p.session) words i.0 i.1) is after.1)

after_all : (columns : List Column) (bound : List Placed) (p : Progress) (words : List Placed) (q : Progress)
    → IsProgress columns p → read_items columns bound p words ≡ Ok q → IsProgress columns q
unfolding read_items
after_all columns [] p words q is h = carried (IsProgress columns) p q h is
after_all columns (word ∷ bound) p words q is h =
    either (ends words) (Ok p) (read_item columns p words >>= λ x. read_items columns bound x.0 x.1) q
    (λ _ e. carried (IsProgress columns) p q e is)
    (λ _ e.
    let x = two_steps (read_item columns p words) (λ x. read_items columns bound x.0 x.1) q e in
    after_all columns bound x.0.0 x.0.1 q (after_one columns p words x.0 is x.1) x.2)
    h

-- ---- the script

record IsOfColumns (columns : List Column) (script : Script) : Type 0 where
  read : AreRead columns script
  named : AreNamed IsPlainName script
  short : IsShort script

session_is : (columns : List Column) (session : Option (List ℕ)) (statements : List Statement)
    → IsProgress columns (record { session = session; statements = statements })
    → IsOfColumns columns (record { sessions = sessions_of session statements })
session_is columns None statements is = record { read = tt; named = tt; short = record { sessions_count = omega arith; statements_count = tt } }
session_is columns (Some name) statements is = record {
  read = (is.read, tt);
  named = (is.named, tt);
  short = record { sessions_count = omega arith; statements_count = (is.room, tt) };
}

text_is : (columns : List Column) (text : List ℕ) (script : Script) → script_in_text columns text ≡ Ok script → IsOfColumns columns script
unfolding script_in_text
text_is columns text script h =
    let p = two_steps (read_items columns (words_of text) started (words_of text)) (λ p. Ok (script_in p)) script h in
    carried (IsOfColumns columns) (script_in p.0) script p.2
    (session_is columns p.0.session p.0.statements (after_all columns (words_of text) started (words_of text) p.0 (begun columns) p.1))

script_is : (bytes : List ℕ) (schema : TableSchema) (script : Script) → script_of bytes schema ≡ Ok script → IsOfColumns schema.columns script
unfolding script_of
script_is bytes schema script h =
    either (nat_lt 1048576 (length bytes)) (Err (fault.Limit 1)) (text_of bytes >>= script_in_text schema.columns) script
    (λ _ e. cc)
    (λ _ e. let text = two_steps (text_of bytes) (script_in_text schema.columns) script e in text_is schema.columns text.0 script text.2)
    h

pub are_read : (bytes : List ℕ) (schema : TableSchema) (script : Script) → script_of bytes schema ≡ Ok script → AreRead schema.columns script
are_read bytes schema script h = (script_is bytes schema script h).read

pub are_plain : (bytes : List ℕ) (schema : TableSchema) (script : Script) → script_of bytes schema ≡ Ok script → AreNamed IsPlainName script
are_plain bytes schema script h = (script_is bytes schema script h).named

pub are_short : (bytes : List ℕ) (schema : TableSchema) (script : Script) → script_of bytes schema ≡ Ok script → IsShort script
are_short bytes schema script h = (script_is bytes schema script h).short

-- ---- what plain names are

each_named : (P Q : List ℕ → Type 0) → ((name : List ℕ) → P name → Q name) → (sessions : List SessionItem)
    → AllByRecursion (λ (s : SessionItem). P s.name) sessions → AllByRecursion (λ (s : SessionItem). Q s.name) sessions
each_named P Q weaker [] are = tt
each_named P Q weaker (session ∷ sessions) are = (weaker session.name are.0, each_named P Q weaker sessions are.1)

pub are_utf8 : (bytes : List ℕ) (schema : TableSchema) (script : Script) → script_of bytes schema ≡ Ok script → AreNamed IsUtf8 script
are_utf8 bytes schema script h = each_named IsPlainName IsUtf8 plain_is_utf8 script.sessions (are_plain bytes schema script h)

pub have_no_hyphen : (bytes : List ℕ) (schema : TableSchema) (script : Script) → script_of bytes schema ≡ Ok script → AreNamed (HasNo 45) script
have_no_hyphen bytes schema script h = each_named IsPlainName (HasNo 45) plain_has_no_hyphen script.sessions (are_plain bytes schema script h)

pub have_no_slash : (bytes : List ℕ) (schema : TableSchema) (script : Script) → script_of bytes schema ≡ Ok script → AreNamed (HasNo 47) script
have_no_slash bytes schema script h = each_named IsPlainName (HasNo 47) plain_has_no_slash script.sessions (are_plain bytes schema script h)
