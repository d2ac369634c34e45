-- Definitions that an oracle takes one after another, as far as a level has room for them.
use Rattle.std.proofs.Common.{◌≡◌, ℕ, zero, suc, ◌+◌, ◌-◌, ◌<◌, ◌≤◌, Bool, true, false, cond, ltb, ◌⊎◌, List, [], ◌∷◌, ◌++◌, map, length, get_or, take, sym, refl, ap, ◌∙◌, subst, inl, inr, append_assoc, length-take, length-append, arith}
use Rattle.std.proofs.lemmas.Bool.{cases_lt, lt-ltb, le-ltb}
use Rattle.std.proofs.lemmas.List.{take_all, take-append-le, map_more}
use Rattle.std.proofs.lemmas.List.Elements.{filter-append}
use Rattle.lists.specs.Lists.{here, Matches, more, none}
use Rattle.clausal.specs.Clausal.{ClauseOf, EntryOf, first_clauses}
use Rattle.clausal.proofs.Words.{from_list}
use Rattle.clausal.proofs.Small.{start_small}
use Rattle.atoms.specs.Clauses.{learnt, definitions, is_definition, clause_from}
use Rattle.atoms.specs.declared.clauses.Clause.{Clause}
use Rattle.atoms.specs.declared.clauses.Entry.{Entry}
use Rattle.atoms.specs.declared.clauses.Mark.TheVariants.{Definition}
use Rattle.naming.specs.Tables.{definition, StartEntries}
use Rattle.oracle.specs.Oracles.{Lists, room, Clears}
use Rattle.session.specs.Defined.{with_fitting, Defined, AllDefined}

taken_map : (n : ℕ) (cs : List Clause) → (ds : List Clause) × (take n (map definition cs) ≡ map definition ds)
taken_map zero cs = ([], refl)
taken_map (suc n) [] = ([], refl)
taken_map (suc n) (c ∷ cs) = let (ds, e) = taken_map n cs in (c ∷ ds, ap (λ (es : List Entry). definition c ∷ es) e)

all_definitions : (cs : List Clause) → definitions (map definition cs) ≡ map definition cs
all_definitions [] = refl
all_definitions (c ∷ cs) = ap (λ (es : List Entry). definition c ∷ es) (all_definitions cs)

-- how many definitions there then are
fitting_length : (es : List Entry) (cs : List Clause) → length (definitions (with_fitting es (map definition cs))) ≡ length (definitions es) + length (take (97 - length (definitions es)) (map definition cs))
fitting_length es cs =
    let n = 97 - length (definitions es) in
    let (ds, e) = taken_map n cs in
    ap length (filter-append is_definition es (take n (map definition cs)) ∙ ap (λ (xs : List Entry). definitions es ++ xs) (ap definitions e ∙ all_definitions ds ∙ sym e)) ∙ length-append (definitions es) (take n (map definition cs))

-- one more is taken, or refused as there is no room
module _ (es : List Entry) (cs : List Clause) (i : ℕ) (d : Clause) (within : i < length cs) where
  abbrev old : List Entry
  old = map definition (take i cs)

  abbrev now : List Entry
  now = with_fitting es old

  abbrev space : ℕ
  space = 97 - length (definitions es)

  room_is : (ok : Bool) → ok ≡ room Definition now → ok ≡ ltb (length (definitions es) + length (take space old)) 97
  room_is ok e = e ∙ ap (λ n. ltb n 97) (fitting_length es (take i cs))

  step : (ok : Bool) (after : List Entry) → ok ≡ room Definition now → after ≡ cond ok (now ++ definition (get_or cs i d) ∷ []) now → after ≡ with_fitting es (map definition (take (i + 1) cs))
  step ok after e r =
      let t = length-take space old in
      let m = map_more definition cs i d within in
      elim (cases_lt (length old) space) [
        | inl h ↦ (
            let same = take_all space old (omega arith) in
            let yes : ok ≡ true = room_is ok e ∙ lt-ltb _ _ (omega (arith, ap length same)) in
            r ∙ ap (λ b. cond b (now ++ definition (get_or cs i d) ∷ []) now) yes ∙ ap (λ (xs : List Entry). (es ++ xs) ++ definition (get_or cs i d) ∷ []) same ∙ append_assoc es old (definition (get_or cs i d) ∷ []) ∙ ap (λ (xs : List Entry). es ++ xs) (sym m ∙ sym (take_all space (map definition (take (i + 1) cs)) (omega (arith, ap length m, length-append old (definition (get_or cs i d) ∷ [])))))
            )
        | inr h ↦ (
            let no : ok ≡ false = room_is ok e ∙ le-ltb _ _ (omega arith) in
            r ∙ ap (λ b. cond b (now ++ definition (get_or cs i d) ∷ []) now) no ∙ ap (λ (xs : List Entry). es ++ xs) (sym (take-append-le space old (definition (get_or cs i d) ∷ []) h) ∙ ap (take space) (sym m))
            )
      ]

  pub defined_more : (xs after : List Entry) → xs ≡ now → (ok : Bool) → ok ≡ room Definition xs → after ≡ cond ok (xs ++ definition (get_or cs i d) ∷ []) xs → after ≡ with_fitting es (map definition (take (i + 1) cs))
  defined_more xs after q ok e r = step ok after (e ∙ ap (room Definition) q) (r ∙ ap (λ (ys : List Entry). cond ok (ys ++ definition (get_or cs i d) ∷ []) ys) q)

-- the levels below some level have got their definitions, the others are as they were
pub record DefinedBelow (before after : Lists) (given : ℕ → List Clause) (i : ℕ) : Type 0 where
  pub below : (k : ℕ) → k < i → after k ≡ with_fitting (before k) (map definition (given k))
  pub above : (k : ℕ) → i ≤ k → after k ≡ before k

pub level_at : (i d : ℕ) → i < 8 → get_or (0 ∷ 1 ∷ 2 ∷ 3 ∷ 4 ∷ 5 ∷ 6 ∷ 7 ∷ []) i d ≡ i
level_at zero d h = refl
level_at (suc zero) d h = refl
level_at (suc (suc zero)) d h = refl
level_at (suc (suc (suc zero))) d h = refl
level_at (suc (suc (suc (suc zero)))) d h = refl
level_at (suc (suc (suc (suc (suc zero))))) d h = refl
level_at (suc (suc (suc (suc (suc (suc zero)))))) d h = refl
level_at (suc (suc (suc (suc (suc (suc (suc zero))))))) d h = refl
level_at (suc (suc (suc (suc (suc (suc (suc (suc n)))))))) d h = absurd (omega arith)

pub level_defined : (before now after : Lists) (given : ℕ → List Clause) (i l : ℕ) (cs : List Clause) → DefinedBelow before now given i → l ≡ i → cs ≡ given l → Defined now after l cs → DefinedBelow before after given (i + 1)
level_defined before now after given i l cs d e q t = record {
  below = λ k h. elim (cases_lt k i) [
    | inl b ↦ t.others k (λ z. absurd (omega arith)) ∙ d.below k b
    | inr b ↦ (let z : k ≡ l = omega arith in subst (λ n. after n ≡ with_fitting (before n) (map definition (given n))) (sym z) (t.here ∙ ap (λ (es : List Entry). with_fitting es (map definition cs)) (d.above l (omega arith)) ∙ ap (λ (xs : List Clause). with_fitting (before l) (map definition xs)) q))
  ];
  above = λ k h. t.others k (λ z. absurd (omega arith)) ∙ d.above k (omega arith);
}

-- a level of a new oracle takes its first clause
pub started : (es fs : Lists) (c : Clause) (i : ℕ) → Clears es → 8 ≤ i → i ≤ 8 → DefinedBelow es fs (λ _. c ∷ []) i → c ≡ clause_from (record { atom = 15; holds = true } ∷ []) → StartEntries fs
started es fs c i z h h' d e = record { defined = λ l. at l (cases_lt l i); entries = λ l. it l (cases_lt l i) }
  where
    first : (l : ℕ) → l < i → fs l ≡ definition c ∷ []
    first l b = d.below l b ∙ ap (λ (xs : List Entry). with_fitting xs (definition c ∷ [])) (z l)

    later : (l : ℕ) → i ≤ l → fs l ≡ []
    later l b = d.above l b ∙ z l

    at : (l : ℕ) → (l < i) ⊎ (i ≤ l) → learnt (fs l) ≡ []
    at l (inl b) = ap learnt (first l b)
    at l (inr b) = ap learnt (later l b)

    whole : ClauseOf (record { atom = 15; holds = true } ∷ []) c
    whole = subst (ClauseOf (record { atom = 15; holds = true } ∷ [])) (sym e) (from_list (record { atom = 15; holds = true } ∷ []) (λ x m. start_small 0 here x m))

    it : (l : ℕ) → (l < i) ⊎ (i ≤ l) → Matches EntryOf (first_clauses l) (fs l)
    it l (inl b) = subst (λ n. Matches EntryOf n (fs l)) (ap (λ k. cond k ((record { atom = 15; holds = true } ∷ []) ∷ []) []) (sym (lt-ltb l 8 (omega arith)))) (subst (Matches EntryOf ((record { atom = 15; holds = true } ∷ []) ∷ [])) (sym (first l b)) (more (definition c) [] [] whole none))
    it l (inr b) = subst (λ n. Matches EntryOf n (fs l)) (ap (λ k. cond k ((record { atom = 15; holds = true } ∷ []) ∷ []) []) (sym (le-ltb l 8 (omega arith)))) (subst (Matches EntryOf []) (sym (later l b)) none)

pub rule_defined : (es fs : Lists) (given : ℕ → List Clause) (i : ℕ) → 8 ≤ i → i ≤ 8 → DefinedBelow es fs given i → AllDefined es fs given
rule_defined es fs given i h h' d = record { levels = λ l b. d.below l (omega arith); beyond = λ l b. d.above l (omega arith) }
