-- A level's entries, and how many of them have each mark.
use Rattle.std.proofs.Common.{◌≡◌, ℕ, ◌+◌, ◌<◌, ◌≤◌, cond, List, [], ◌∷◌, ◌++◌, map, length, get_or, set, sym, refl, ap, ◌∙◌, subst, arith, is_ok, Result}
use Rattle.std.specs.Bool.{⊤}
use Rattle.std.proofs.lemmas.List.Filters.{length-filter_both}
use Rattle.std.proofs.lemmas.List.{map-set, length-map, get_or-set_same, get_or-set_other, get_or-map, get_or_past, nil_from_length}
use Rattle.lists.proofs.Members.{kept_others}
use Rattle.atoms.specs.Clauses.{is_learnt, is_definition, learnt, definitions}
use Rattle.atoms.specs.declared.clauses.Entry.{Entry}
use Rattle.oracle.specs.Oracles.{room, Taken}
use Rattle.oracle.specs.Stores.{held_of, entries_in}
use Rattle.oracle.specs.declared.answers.LevelFull.{LevelFull}
use Rattle.oracle.specs.declared.entry_list.EntryList.{EntryList}

-- how long a level's list is, by the two counts
pub counted : (es : List Entry) → length (learnt es) + length (definitions es) ≡ length es
counted es = length-filter_both is_learnt is_definition (λ _. refl) es

-- where nothing is learnt, the definitions are all that is held
pub all_defined : (es : List Entry) → length (learnt es) ≡ 0 → definitions es ≡ es
all_defined es e = kept_others is_learnt es (nil_from_length (learnt es) e)

-- the entries of the levels, where one level's list is written
pub entries_here : (rs : List EntryList) (i : ℕ) (r : EntryList) → i < length rs → entries_in (set rs i r) i ≡ held_of r
entries_here rs i r l =
    ap (λ (xs : List (List Entry)). get_or xs i []) (map-set held_of rs i r) ∙ get_or-set_same (map held_of rs) i (held_of r) [] (omega (arith, length-map rs held_of))

pub entries_other : (rs : List EntryList) (i k : ℕ) (r : EntryList) → (k ≡ i → ⊥) → entries_in (set rs i r) k ≡ entries_in rs k
entries_other rs i k r h = ap (λ (xs : List (List Entry)). get_or xs k []) (map-set held_of rs i r) ∙ get_or-set_other (map held_of rs) i k (held_of r) [] h

pub entries_read : (rs : List EntryList) (i : ℕ) (r : EntryList) → i < length rs → held_of (get_or rs i r) ≡ entries_in rs i
entries_read rs i r l = sym (get_or-map held_of rs i r [] l)

pub entries_past : (rs : List EntryList) (k : ℕ) → length rs ≤ k → entries_in rs k ≡ []
entries_past rs k l = get_or_past (map held_of rs) k [] (omega (arith, length-map rs held_of))

-- what taking an entry at a level does
pub taken : (rs : List EntryList) (i n : ℕ) (old r : EntryList) (e : Entry) (x : Result ⊤ LevelFull) → i < length rs → i ≡ n
    → held_of r ≡ cond (is_ok x) (held_of (get_or rs i old) ++ e ∷ []) (held_of (get_or rs i old)) → is_ok x ≡ room e.mark (held_of (get_or rs i old)) → Taken (entries_in rs) (entries_in (set rs i r)) n e x
taken rs i n old r e x l q items when =
    subst (λ (m : ℕ). Taken (entries_in rs) (entries_in (set rs i r)) m e x) q
    (record {
      others = λ k h. entries_other rs i k r h;
      here = entries_here rs i r l ∙ items ∙ ap (λ (xs : List Entry). cond (is_ok x) (xs ++ e ∷ []) xs) (entries_read rs i old l);
      when = when ∙ ap (room e.mark) (entries_read rs i old l);
    })
