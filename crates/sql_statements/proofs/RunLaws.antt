-- Laws of serial runs.
use Rattle.std.proofs.Common.{◌≡◌, ℕ, Bool, true, false, cond, List, [], ◌∷◌, ◌++◌, Option, Some, None, Ok, Err, refl, sym, ap, subst, ◌∙◌}
use Rattle.std.specs.Prelude.{codes, Result, option_and_then, is_none, unwrap_or, IsSome}
use Rattle.std.proofs.lemmas.Cmp.{nat_list_eq_equiv}
use Rattle.plain_types.specs.Bags.{SameBag}
use Rattle.row_values.specs.declared.value.Value.{Value}
use Rattle.sql_predicates.specs.declared.pred.Pred.{Pred}
use Rattle.sql_statements.specs.declared.statement.Statement.{Statement}
use Rattle.sql_statements.specs.declared.statement.Statement.TheVariants as statement
use Rattle.sql_statements.specs.declared.statement.Source.{Source}
use Rattle.sql_statements.specs.declared.effect.SqlRefusal.{SqlRefusal}
use Rattle.sql_statements.specs.Effects.{result_of}
use Rattle.sql_statements.specs.Tables.{is_dml, branch_of}
use Rattle.sql_statements.specs.Serial.{Branch, State, Told, same_name, rows_on, without, with_rows, with_branches, changed, created, run_on, after, serial}
use Rattle.sql_statements.specs.Results.{SameResult, SameRows, SameBranches, SameState, SameOutcome}
use Rattle.sql_statements.proofs.StatementLaws.{result_of_bag, select_leaves}

abbrev branch : List ℕ → List (List Value) → Branch
branch name rows = record { name = name; rows = rows }

apart : (name other own : List ℕ) → same_name own name ≡ true → same_name name other ≡ false → same_name own other ≡ false
apart name other own is out = nat_list_eq_equiv.congr own name other is ∙ out

-- ---- branches changed one by one

own_of_with : (name : List ℕ) (rows old : List (List Value)) (bs : List Branch) → rows_on name bs ≡ Some old → rows_on name (with_rows name rows bs) ≡ Some rows
own_of_with name rows old [] there = absurd cc
own_of_with name rows old (b ∷ bs) there = by (same_name b.name name) refl (own_of_with name rows old bs) there
  where
    by : (found : Bool) → same_name b.name name ≡ found → (rows_on name bs ≡ Some old
        → rows_on name (with_rows name rows bs) ≡ Some rows) → cond found (Some b.rows) (rows_on name bs) ≡ Some old
        → rows_on name (cond found (branch b.name rows ∷ with_rows name rows bs) (b ∷ with_rows name rows bs)) ≡ Some rows
    by true is rest h = ap (λ f. cond f (Some rows) (rows_on name (with_rows name rows bs))) is
    by false is rest h = ap (λ f. cond f (Some b.rows) (rows_on name (with_rows name rows bs))) is ∙ rest h

others_of_with : (name other : List ℕ) (rows : List (List Value)) → same_name name other ≡ false → (bs : List Branch)
    → rows_on other (with_rows name rows bs) ≡ rows_on other bs
others_of_with name other rows out [] = refl
others_of_with name other rows out (b ∷ bs) = by (same_name b.name name) refl (others_of_with name other rows out bs)
  where
    by : (found : Bool) → same_name b.name name ≡ found → rows_on other (with_rows name rows bs) ≡ rows_on other bs
        → rows_on other (cond found (branch b.name rows ∷ with_rows name rows bs)
        (b ∷ with_rows name rows bs)) ≡ cond (same_name b.name other) (Some b.rows) (rows_on other bs)
    by true is rest =
        let no = apart name other b.name is out in
        ap (λ f. cond f (Some rows) (rows_on other (with_rows name rows bs))) no ∙ rest ∙ sym (ap (λ f. cond f (Some b.rows) (rows_on other bs)) no)
    by false is rest = ap (cond (same_name b.name other) (Some b.rows)) rest

others_of_without : (name other : List ℕ) → same_name name other ≡ false → (bs : List Branch) → rows_on other (without name bs) ≡ rows_on other bs
others_of_without name other out [] = refl
others_of_without name other out (b ∷ bs) = by (same_name b.name name) refl (others_of_without name other out bs)
  where
    by : (found : Bool) → same_name b.name name ≡ found → rows_on other (without name bs) ≡ rows_on other bs
        → rows_on other (cond found (without name bs) (b ∷ without name bs)) ≡ cond (same_name b.name other) (Some b.rows)
        (rows_on other bs)
    by true is rest = rest ∙ sym (ap (λ f. cond f (Some b.rows) (rows_on other bs)) (apart name other b.name is out))
    by false is rest = ap (cond (same_name b.name other) (Some b.rows)) rest

none_without : (name : List ℕ) (bs : List Branch) → rows_on name (without name bs) ≡ None
none_without name [] = refl
none_without name (b ∷ bs) = by (same_name b.name name) refl (none_without name bs)
  where
    by : (found : Bool) → same_name b.name name ≡ found → rows_on name (without name bs) ≡ None
        → rows_on name (cond found (without name bs) (b ∷ without name bs)) ≡ None
    by true is rest = rest
    by false is rest = ap (λ f. cond f (Some b.rows) (rows_on name (without name bs))) is ∙ rest

others_of_new : (other : List ℕ) (new : Branch) → same_name new.name other ≡ false → (bs : List Branch) → rows_on other (bs ++ new ∷ []) ≡ rows_on other bs
others_of_new other new out [] = ap (λ f. cond f (Some new.rows) None) out
others_of_new other new out (b ∷ bs) = ap (cond (same_name b.name other) (Some b.rows)) (others_of_new other new out bs)

own_of_new : (name : List ℕ) (new : Branch) → same_name new.name name ≡ true → (bs : List Branch) → rows_on name bs ≡ None
    → rows_on name (bs ++ new ∷ []) ≡ Some new.rows
own_of_new name new is [] none = ap (λ f. cond f (Some new.rows) None) is
own_of_new name new is (b ∷ bs) none = by (same_name b.name name) (own_of_new name new is bs) none
  where
    by : (found : Bool) → (rows_on name bs ≡ None → rows_on name (bs ++ new ∷ []) ≡ Some new.rows)
        → cond found (Some b.rows) (rows_on name bs) ≡ None
        → cond found (Some b.rows) (rows_on name (bs ++ new ∷ [])) ≡ Some new.rows
    by true rest h = absurd cc
    by false rest h = rest h

-- ---- a statement

some_state : (a next : State) → Some a ≡ Some next → a ≡ next
some_state a next = ap (λ o. unwrap_or o a)

changed_others : (state next : State) (name other : List ℕ) (result : Result (List (List Value)) SqlRefusal)
    → same_name name other ≡ false → changed state name result ≡ Some next
    → rows_on other next.branches ≡ rows_on other state.branches
changed_others state next name other (Err why) out h = absurd cc
changed_others state next name other (Ok rows) out h =
    sym (ap (λ (st : State). rows_on other st.branches) (some_state _ next h)) ∙ others_of_with name other rows out state.branches

run_others : (sources : List Source) (s : Statement) (state next : State) (other : List ℕ) (rows : Option (List (List Value)))
    → same_name (branch_of s) other ≡ false → option_and_then (run_on sources state s) rows ≡ Some next
    → rows_on other next.branches ≡ rows_on other state.branches
run_others sources s state next other None out h = absurd cc
run_others sources s state next other (Some rows) out h = changed_others state next (branch_of s) other (result_of state.schema sources s rows) out h

created_is : (state next : State) (name : List ℕ) (rows : List (List Value)) → created state name rows ≡ Some next
    → (rows_on name state.branches ≡ None) × (next ≡ with_branches state (state.branches ++ branch name rows ∷ []))
created_is state next name rows h = by (rows_on name state.branches) refl h
  where
    by : (there : Option (List (List Value))) → rows_on name state.branches ≡ there
        → cond (is_none there) (Some (with_branches state (state.branches ++ branch name rows ∷ []))) None ≡ Some next
        → (rows_on name state.branches ≡ None) × (next ≡ with_branches state (state.branches ++ branch name rows ∷ []))
    by (Some old) is made = absurd cc
    by None is made = (is, sym (some_state _ next made))

create_others : (state next : State) (name other : List ℕ) (main : Option (List (List Value))) → same_name name other ≡ false
    → option_and_then (created state name) main ≡ Some next → rows_on other next.branches ≡ rows_on other state.branches
create_others state next name other None out h = absurd cc
create_others state next name other (Some rows) out h =
    ap (λ (st : State). rows_on other st.branches) (created_is state next name rows h).1 ∙ others_of_new other (branch name rows) out state.branches

drop_others : (state next : State) (name other : List ℕ) (there : Option (List (List Value))) → same_name name other ≡ false
    → option_and_then (λ rows. Some (with_branches state (without name state.branches))) there ≡ Some next
    → rows_on other next.branches ≡ rows_on other state.branches
drop_others state next name other None out h = absurd cc
drop_others state next name other (Some rows) out h =
    sym (ap (λ (st : State). rows_on other st.branches) (some_state _ next h)) ∙ others_of_without name other out state.branches

-- another branch keeps its rows
pub others_stay : (sources : List Source) (s : Statement) (state next : State) (other : List ℕ)
    → same_name (branch_of s) other ≡ false → after sources s state ≡ Some next
    → rows_on other next.branches ≡ rows_on other state.branches
others_stay sources (statement.CreateBranch name) state next other out h = create_others state next name other (rows_on (codes "main") state.branches) out h
others_stay sources (statement.DropBranch name) state next other out h = drop_others state next name other (rows_on name state.branches) out h
others_stay sources (statement.Insert name rows) state next other out h = run_others sources (statement.Insert name rows) state next other _ out h
others_stay sources (statement.Delete name filter) state next other out h = run_others sources (statement.Delete name filter) state next other _ out h
others_stay sources (statement.Update name sets filter) state next other out h = run_others sources (statement.Update name sets filter) state next other _ out h
others_stay sources (statement.Merge m) state next other out h = run_others sources (statement.Merge m) state next other _ out h
others_stay sources (statement.Select name filter) state next other out h = run_others sources (statement.Select name filter) state next other _ out h

-- a new branch has the rows of `main`
pub copies_main : (sources : List Source) (name : List ℕ) (state next : State)
    → after sources (statement.CreateBranch name) state ≡ Some next
    → rows_on name next.branches ≡ rows_on (codes "main") state.branches
copies_main sources name state next h = by (rows_on (codes "main") state.branches) h
  where
    by : (main : Option (List (List Value))) → option_and_then (created state name) main ≡ Some next → rows_on name next.branches ≡ main
    by None made = absurd cc
    by (Some rows) made =
        let is = created_is state next name rows made in
        ap (λ (st : State). rows_on name st.branches) is.1 ∙ own_of_new name (branch name rows) (nat_list_eq_equiv.refl name) state.branches is.0

pub dropped_is_gone : (sources : List Source) (name : List ℕ) (state next : State)
    → after sources (statement.DropBranch name) state ≡ Some next → rows_on name next.branches ≡ None
dropped_is_gone sources name state next h = by (rows_on name state.branches) h
  where
    by : (there : Option (List (List Value)))
        → option_and_then (λ rows. Some (with_branches state (without name state.branches))) there ≡ Some next
        → rows_on name next.branches ≡ None
    by None made = absurd cc
    by (Some rows) made = sym (ap (λ (st : State). rows_on name st.branches) (some_state _ next made)) ∙ none_without name state.branches

-- what a statement that may change rows comes to
pub run_is : (sources : List Source) (s : Statement) (state : State) → is_dml s ≡ true
    → after sources s state ≡ option_and_then (run_on sources state s) (rows_on (branch_of s) state.branches)
run_is sources (statement.CreateBranch name) state h = absurd cc
run_is sources (statement.DropBranch name) state h = absurd cc
run_is sources (statement.Insert name rows) state h = refl
run_is sources (statement.Delete name filter) state h = refl
run_is sources (statement.Update name sets filter) state h = refl
run_is sources (statement.Merge m) state h = refl
run_is sources (statement.Select name filter) state h = refl

run_on_rows : (sources : List Source) (s : Statement) (state : State) (rows : List (List Value))
    (result : Result (List (List Value)) SqlRefusal) → is_dml s ≡ true → rows_on (branch_of s) state.branches ≡ Some rows
    → result_of state.schema sources s rows ≡ result → after sources s state ≡ changed state (branch_of s) result
run_on_rows sources s state rows result may there is =
    run_is sources s state may ∙ ap (option_and_then (run_on sources state s)) there ∙ ap (changed state (branch_of s)) is

pub result_stands : (sources : List Source) (s : Statement) (state next : State) (rows left : List (List Value)) → is_dml s ≡ true
    → rows_on (branch_of s) state.branches ≡ Some rows → result_of state.schema sources s rows ≡ Ok left
    → after sources s state ≡ Some next → rows_on (branch_of s) next.branches ≡ Some left
result_stands sources s state next rows left may there is h =
    sym (ap (λ (st : State). rows_on (branch_of s) st.branches) (some_state _ next (sym (run_on_rows sources s state rows (Ok left) may there is) ∙ h)))
    ∙ own_of_with (branch_of s) left rows state.branches there

pub refused_gives_nothing : (sources : List Source) (s : Statement) (state : State) (rows : List (List Value)) (why : SqlRefusal)
    → is_dml s ≡ true → rows_on (branch_of s) state.branches ≡ Some rows → result_of state.schema sources s rows ≡ Err why
    → after sources s state ≡ None
refused_gives_nothing sources s state rows why may there is = run_on_rows sources s state rows (Err why) may there is

-- ---- SELECT

as_near : (name other own : List ℕ) → same_name name other ≡ true → same_name own name ≡ same_name own other
as_near name other own same = nat_list_eq_equiv.symm own name ∙ nat_list_eq_equiv.congr name other own same ∙ nat_list_eq_equiv.symm other own

rows_of_alike : (name other : List ℕ) → same_name name other ≡ true → (bs : List Branch) → rows_on name bs ≡ rows_on other bs
rows_of_alike name other same [] = refl
rows_of_alike name other same (b ∷ bs) =
    ap (λ f. cond f (Some b.rows) (rows_on name bs)) (as_near name other b.name same) ∙ ap (cond (same_name b.name other) (Some b.rows)) (rows_of_alike name other same bs)

-- a branch that takes its own rows
with_own_rows : (name other : List ℕ) (rows : List (List Value)) (bs : List Branch) → rows_on name bs ≡ Some rows
    → rows_on other (with_rows name rows bs) ≡ rows_on other bs
with_own_rows name other rows bs there = by (same_name name other) refl
  where
    by : (same : Bool) → same_name name other ≡ same → rows_on other (with_rows name rows bs) ≡ rows_on other bs
    by true is =
        sym (rows_of_alike name other is (with_rows name rows bs)) ∙ own_of_with name rows rows bs there ∙ sym there ∙ rows_of_alike name other is bs
    by false is = others_of_with name other rows is bs

selected : (sources : List Source) (name : List ℕ) (filter : Pred) (state : State) (rows : List (List Value))
    → rows_on name state.branches ≡ Some rows
    → after sources (statement.Select name filter) state ≡ Some (with_branches state (with_rows name rows state.branches))
selected sources name filter state rows there =
    ap (option_and_then (run_on sources state (statement.Select name filter))) there ∙ ap (changed state name) (select_leaves state.schema sources name filter rows)

pub select_keeps : (sources : List Source) (name : List ℕ) (filter : Pred) (state next : State) (other : List ℕ)
    → after sources (statement.Select name filter) state ≡ Some next → rows_on other next.branches ≡ rows_on other state.branches
select_keeps sources name filter state next other h = by (rows_on name state.branches) refl h
  where
    by : (there : Option (List (List Value))) → rows_on name state.branches ≡ there
        → option_and_then (run_on sources state (statement.Select name filter)) there ≡ Some next
        → rows_on other next.branches ≡ rows_on other state.branches
    by None is made = absurd cc
    by (Some rows) is made =
        sym (ap (λ (st : State). rows_on other st.branches) (some_state _ next (sym (selected sources name filter state rows is) ∙ h)))
        ∙ with_own_rows name other rows state.branches is

pub select_stands : (sources : List Source) (name : List ℕ) (filter : Pred) (state : State) (rows : List (List Value))
    → rows_on name state.branches ≡ Some rows → IsSome (after sources (statement.Select name filter) state)
select_stands sources name filter state rows there = subst IsSome (sym (selected sources name filter state rows there)) refl

-- ---- one run after another

pub serial-append : (sources : List Source) (first second : List Told) (state : State)
    → serial sources (first ++ second) state ≡ option_and_then (serial sources second) (serial sources first state)
serial-append sources [] second state = refl
serial-append sources (told ∷ rest) second state = by (after sources told.statement state) (serial-append sources rest second)
  where
    by : (next : Option State) → ((st : State) → serial sources (rest ++ second) st ≡ option_and_then (serial sources second)
        (serial sources rest st))
        → option_and_then (serial sources (rest ++ second)) next ≡ option_and_then (serial sources second)
        (option_and_then (serial sources rest) next)
    by None on = refl
    by (Some st) on = on st

-- ---- the order of rows

same_rows_on : (name : List ℕ) (bs cs : List Branch) → SameBranches bs cs → SameRows (rows_on name bs) (rows_on name cs)
same_rows_on name [] [] same = tt
same_rows_on name [] (c ∷ cs) same = absurd same
same_rows_on name (b ∷ bs) [] same = absurd same
same_rows_on name (b ∷ bs) (c ∷ cs) same =
    subst (λ f. SameRows (rows_on name (b ∷ bs)) (cond f (Some c.rows) (rows_on name cs))) (ap (λ n. same_name n name) same.0) (by (same_name b.name name) (same_rows_on name bs cs same.2))
  where
    by : (found : Bool) → SameRows (rows_on name bs) (rows_on name cs)
        → SameRows (cond found (Some b.rows) (rows_on name bs)) (cond found (Some c.rows) (rows_on name cs))
    by true rest = same.1
    by false rest = rest

same_with : (name : List ℕ) (xs ys : List (List Value)) → SameBag xs ys → (bs cs : List Branch) → SameBranches bs cs
    → SameBranches (with_rows name xs bs) (with_rows name ys cs)
same_with name xs ys bag [] [] same = tt
same_with name xs ys bag [] (c ∷ cs) same = absurd same
same_with name xs ys bag (b ∷ bs) [] same = absurd same
same_with name xs ys bag (b ∷ bs) (c ∷ cs) same =
    subst (λ f. SameBranches (with_rows name xs (b ∷ bs)) (cond f (branch c.name ys ∷ with_rows name ys cs) (c ∷ with_rows name ys cs))) (ap (λ n. same_name n name) same.0) (by (same_name b.name name) (same_with name xs ys bag bs cs same.2))
  where
    by : (found : Bool) → SameBranches (with_rows name xs bs) (with_rows name ys cs)
        → SameBranches (cond found (branch b.name xs ∷ with_rows name xs bs) (b ∷ with_rows name xs bs))
        (cond found (branch c.name ys ∷ with_rows name ys cs) (c ∷ with_rows name ys cs))
    by true rest = (same.0, bag, rest)
    by false rest = (same.0, same.1, rest)

same_without : (name : List ℕ) (bs cs : List Branch) → SameBranches bs cs → SameBranches (without name bs) (without name cs)
same_without name [] [] same = tt
same_without name [] (c ∷ cs) same = absurd same
same_without name (b ∷ bs) [] same = absurd same
same_without name (b ∷ bs) (c ∷ cs) same =
    subst (λ f. SameBranches (without name (b ∷ bs)) (cond f (without name cs) (c ∷ without name cs))) (ap (λ n. same_name n name) same.0) (by (same_name b.name name) (same_without name bs cs same.2))
  where
    by : (found : Bool) → SameBranches (without name bs) (without name cs)
        → SameBranches (cond found (without name bs) (b ∷ without name bs)) (cond found (without name cs) (c ∷ without name cs))
    by true rest = rest
    by false rest = (same.0, same.1, rest)

same_new : (name : List ℕ) (xs ys : List (List Value)) → SameBag xs ys → (bs cs : List Branch) → SameBranches bs cs
    → SameBranches (bs ++ branch name xs ∷ []) (cs ++ branch name ys ∷ [])
same_new name xs ys bag [] [] same = (refl, bag, tt)
same_new name xs ys bag [] (c ∷ cs) same = absurd same
same_new name xs ys bag (b ∷ bs) [] same = absurd same
same_new name xs ys bag (b ∷ bs) (c ∷ cs) same = (same.0, same.1, same_new name xs ys bag bs cs same.2)

module _ (a b : State) (same : SameState a b) where
  same_changed : (name : List ℕ) (r q : Result (List (List Value)) SqlRefusal) → SameResult r q → SameOutcome (changed a name r) (changed b name q)
  same_changed name (Ok xs) (Ok ys) alike = record { schema = same.schema; branches = same_with name xs ys alike a.branches b.branches same.branches }
  same_changed name (Err why) (Err other) alike = tt
  same_changed name (Ok xs) (Err other) alike = absurd alike
  same_changed name (Err why) (Ok ys) alike = absurd alike

  same_run : (sources : List Source) (s : Statement) (x y : Option (List (List Value))) → SameRows x y
      → SameOutcome (option_and_then (run_on sources a s) x) (option_and_then (run_on sources b s) y)
  same_run sources s None None alike = tt
  same_run sources s None (Some ys) alike = absurd alike
  same_run sources s (Some xs) None alike = absurd alike
  same_run sources s (Some xs) (Some ys) alike =
      same_changed (branch_of s) _ _ (subst (λ columns. SameResult (result_of a.schema sources s xs) (result_of columns sources s ys)) same.schema (result_of_bag a.schema sources s xs ys alike))

  same_created : (name : List ℕ) (x y : Option (List (List Value))) → SameRows x y
      → SameOutcome (option_and_then (created a name) x) (option_and_then (created b name) y)
  same_created name None None alike = tt
  same_created name None (Some ys) alike = absurd alike
  same_created name (Some xs) None alike = absurd alike
  same_created name (Some xs) (Some ys) alike = by (rows_on name a.branches) (rows_on name b.branches) (same_rows_on name a.branches b.branches same.branches)
    where
      by : (x y : Option (List (List Value))) → SameRows x y
          → SameOutcome (cond (is_none x) (Some (with_branches a (a.branches ++ branch name xs ∷ []))) None)
          (cond (is_none y) (Some (with_branches b (b.branches ++ branch name ys ∷ []))) None)
      by None None there = record { schema = same.schema; branches = same_new name xs ys alike a.branches b.branches same.branches }
      by None (Some vs) there = absurd there
      by (Some us) None there = absurd there
      by (Some us) (Some vs) there = tt

  same_dropped : (name : List ℕ) (x y : Option (List (List Value))) → SameRows x y
      → SameOutcome (option_and_then (λ rows. Some (with_branches a (without name a.branches))) x)
      (option_and_then (λ rows. Some (with_branches b (without name b.branches))) y)
  same_dropped name None None alike = tt
  same_dropped name None (Some ys) alike = absurd alike
  same_dropped name (Some xs) None alike = absurd alike
  same_dropped name (Some xs) (Some ys) alike = record { schema = same.schema; branches = same_without name a.branches b.branches same.branches }

  there_too : (name : List ℕ) → SameRows (rows_on name a.branches) (rows_on name b.branches)
  there_too name = same_rows_on name a.branches b.branches same.branches

  same_after : (sources : List Source) (s : Statement) → SameOutcome (after sources s a) (after sources s b)
  same_after sources (statement.CreateBranch name) = same_created name _ _ (there_too (codes "main"))
  same_after sources (statement.DropBranch name) = same_dropped name _ _ (there_too name)
  same_after sources (statement.Insert name rows) = same_run sources (statement.Insert name rows) _ _ (there_too name)
  same_after sources (statement.Delete name filter) = same_run sources (statement.Delete name filter) _ _ (there_too name)
  same_after sources (statement.Update name sets filter) = same_run sources (statement.Update name sets filter) _ _ (there_too name)
  same_after sources (statement.Merge m) = same_run sources (statement.Merge m) _ _ (there_too m.branch)
  same_after sources (statement.Select name filter) = same_run sources (statement.Select name filter) _ _ (there_too name)

pub same_serial : (sources : List Source) (told : List Told) (a b : State) → SameState a b → SameOutcome (serial sources told a) (serial sources told b)
same_serial sources [] a b same = same
same_serial sources (told ∷ rest) a b same = by (after sources told.statement a) (after sources told.statement b) (same_after a b same sources told.statement) (same_serial sources rest)
  where
    by : (x y : Option State) → SameOutcome x y → ((v w : State) → SameState v w
        → SameOutcome (serial sources rest v) (serial sources rest w))
        → SameOutcome (option_and_then (serial sources rest) x) (option_and_then (serial sources rest) y)
    by None None alike on = tt
    by None (Some y) alike on = absurd alike
    by (Some x) None alike on = absurd alike
    by (Some x) (Some y) alike on = on x y alike
