-- Rules that are few enough and leave room for their names are held by some session.
use Rattle.std.proofs.Common.{◌≡◌, ℕ, zero, suc, ◌<◌, ◌≤◌, true, List, [], ◌∷◌, ◌++◌, length, map, sym, refl, ap, subst, ap₂, inl, inr, arith}
use Rattle.std.proofs.lemmas.Bool.{and_parts, cases_lt, leb-true}
use Rattle.lists.specs.Lists.{In, every}
use Rattle.lists.proofs.Members.{every_in, in_either, kept_all}
use Rattle.modal.specs.Rows.{lawful}
use Rattle.modal.specs.declared.row.Row.{Row}
use Rattle.atoms.specs.Clauses.{is_definition}
use Rattle.atoms.specs.declared.clauses.Entry.{Entry}
use Rattle.atoms.specs.declared.clauses.Literal.{Literal}
use Rattle.clausal.specs.Clausal.{Clausal, Naming, DefinedBy, boxed, defines_rule, diamonded, modals_at, first_clauses}
use Rattle.clausal.specs.Counting.{names_of}
use Rattle.clausal.specs.States.{State}
use Rattle.clausal.proofs.Rows.{lawful_rows}
use Rattle.clausal.proofs.Small.{rule_small, start_small}
use Rattle.naming.specs.Names.{names_from}
use Rattle.naming.proofs.Named.{in_order_naming, names_from_length}
use Rattle.naming.proofs.OwnNames.{names_beyond}
use Rattle.samples.specs.Laws.{fit, leaves_room}
use Rattle.samples.specs.Samples.{HeldBySome}
use Rattle.naming.proofs.Adding.{as_definition, writes_all}
use Rattle.lists.proofs.Ranges.{in_range}
use Rattle.lists.proofs.Maps.{mapped_in}

-- past level 7 no rule takes a name
none_beyond : (r : ℕ) (rules : List (List Row)) → every lawful rules ≡ true → (l : ℕ) → 8 ≤ l → names_from r rules l ≡ []
none_beyond r [] ok l h = refl
none_beyond r (rows ∷ rules) ok l h =
    let (a, b) = and_parts (lawful rows) (every lawful rules) ok in
    ap₂ ◌++◌ (names_beyond r rows (lawful_rows rows a) l h) (none_beyond (suc r) rules b l h)

module _ (rules : List (List Row)) where
  -- the rules with their names in order
  abbrev names_only : State
  names_only = record { rules = rules; names = names_from 0 rules; boxes = λ l. []; diamonds = λ l. []; entries = λ l. [] }

  -- the level's start and the definitions of the first k rules
  abbrev defined : ℕ → ℕ → List Entry
  defined l zero = map as_definition (first_clauses l)
  defined l (suc k) = defined l k ++ map as_definition (defines_rule names_only l k)

  abbrev session : State
  session = record { rules = rules; names = names_from 0 rules; boxes = modals_at boxed names_only; diamonds = modals_at diamonded names_only; entries = λ l. defined l (length rules) }

  made_definition : (xss : List (List Literal)) (e : Entry) → In e (map as_definition xss) → is_definition e ≡ true
  made_definition xss e i = let (xs, j, q) = mapped_in as_definition xss i in subst (λ z. is_definition z ≡ true) q refl

  each_definition : (l k : ℕ) (e : Entry) → In e (defined l k) → is_definition e ≡ true
  each_definition l zero e i = made_definition (first_clauses l) e i
  each_definition l (suc k) e i = elim (in_either (defined l k) (map as_definition (defines_rule names_only l k)) i) [ inl j ↦ each_definition l k e j | inr j ↦ made_definition (defines_rule names_only l k) e j ]

  module _ (fits : fit rules ≡ true) where
    few : length rules ≤ 16
    few = leb-true (length rules) 16 (and_parts _ _ fits).0

    ok : every lawful rules ≡ true
    ok = (and_parts _ _ (and_parts _ _ fits).1).0

    uncrowded : (l : ℕ) → l < 8 → names_of rules l ≤ 48
    uncrowded l h = leb-true (names_of rules l) _ (every_in (leaves_room rules) (in_range 0 8 l (omega arith) (omega arith)) (and_parts (every lawful rules) _ (and_parts _ _ fits).1).1)

    room : (l : ℕ) → length (names_from 0 rules l) ≤ 48
    room l = elim (cases_lt l 8) [
      | inl h ↦ (let a = names_from_length 0 rules ok l in let b = uncrowded l h in omega arith)
      | inr h ↦ (let a = ap length (none_beyond 0 rules ok l h) in omega arith)
    ]

    naming : Naming session
    naming = in_order_naming session few ok room (λ l. refl)

    all_defined : (l k : ℕ) → DefinedBy session l k (defined l k)
    all_defined l zero = writes_all (first_clauses l) (λ xs i. start_small l i)
    all_defined l (suc k) = (defined l k, map as_definition (defines_rule session l k), refl, all_defined l k, writes_all (defines_rule session l k) (λ xs i. rule_small session naming l k i))

    form : Clausal session
    form = record {
      naming = naming;
      boxes = λ l. refl;
      diamonds = λ l. refl;
      written = λ l. subst (DefinedBy session l (length rules)) (sym (kept_all is_definition (defined l (length rules)) (each_definition l (length rules)))) (all_defined l (length rules));
    }

    pub held_somewhere : HeldBySome rules
    held_somewhere = record { session = session; holds = record { clausal = form; rules_held = refl } }
