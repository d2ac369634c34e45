-- Rules that a world of a Kripke model meets have a complete tree, and the root of a complete tree meets the rules.
use Rattle.std.proofs.Common.{◌≡◌, ℕ, zero, suc, ◌+◌, ◌<◌, ◌≤◌, true, false, List, [], ◌∷◌, length, get_or, sym, refl, ap, ◌∙◌, subst, arith}
use Rattle.std.proofs.lemmas.Bool.{and_from}
use Rattle.lists.specs.Lists.{In, here, there}
use Rattle.lists.proofs.Members.{every_in, every_from, kept_in, get_or_in, in_get_or}
use Rattle.modal.specs.Kripke.{Model, meets, world}
use Rattle.modal.specs.Rows.{says}
use Rattle.modal.proofs.Models.{successor_inside}
use Rattle.modal.specs.declared.row.Row.{Row}
use Rattle.atoms.specs.Clauses.{Valuation, definitions, makes_all}
use Rattle.atoms.specs.declared.clauses.Literal.{Literal}
use Rattle.clausal.specs.Clausal.{Clausal}
use Rattle.clausal.specs.States.{State, at_world, fired, handle_of, literals, obeys_all, reads_name, rule_at}
use Rattle.clausal.specs.Trees.{Complete, CompleteAll, Forest, Tree, more, node, none, root, worlds}
use Rattle.clausal.specs.declared.modal_clauses.ModalClause.{ModalClause}
use Rattle.clausal.proofs.Flat.{model_of}
use Rattle.clausal.proofs.Modals.{diamonds_orderly}
use Rattle.clausal.proofs.Reading.{handle_at, reading_name}
use Rattle.clausal.proofs.Soundness.{box_true, definition_true, diamond_true}
use Rattle.clausal.proofs.Truth.{root_meets}
use Rattle.law.specs.Verdicts.{handles}
use Rattle.samples.specs.Samples.{HeldBy, MetBy, numbers}
use Rattle.lists.proofs.Ranges.{range_in, in_range}
use Rattle.law.proofs.Learning.{in_handles}

module _ (st : State) (cl : Clausal st) (m : Model) where
  -- how a world of the model reads the atoms of a level
  abbrev reading : ℕ → ℕ → Valuation
  reading l w = at_world st l (λ _. false) m.worlds w

  defined : (l w : ℕ) → makes_all (reading l w) (definitions (st.entries l)) ≡ true
  defined l w = every_from _ _ (λ e i. definition_true st cl l (λ _. false) m.worlds w e i)

  boxes_obeyed : (l w x : ℕ) → In x (world m.worlds w).successors → (bs : List ModalClause) → ((b : ModalClause) → In b bs → In b (fired (reading l w) (st.boxes l))) → obeys_all (reading (suc l) x) (literals bs) ≡ true
  boxes_obeyed l w x j [] h = refl
  boxes_obeyed l w x j (b ∷ bs) h = let (i, t) = kept_in (λ (c : ModalClause). reading l w c.name) (st.boxes l) (h b here) in and_from _ _ (box_true st cl l (λ _. false) m.worlds w b i t (λ _. false) x j) (boxes_obeyed l w x j bs (λ c k. h c (there k)))

  -- a tree for each diamond makes a forest
  forest : (l : ℕ) (bs : List Literal) (ds : List ModalClause) → ((d : ModalClause) → In d ds → (t : Tree) × Complete st l (d.literal ∷ bs) t) → (ts : Forest) × CompleteAll st l bs ds ts
  forest l bs [] h = (none, refl)
  forest l bs (d ∷ ds) h = let (t, c) = h d here in let (ts, cs) = forest l bs ds (λ e i. h e (there i)) in (more t ts, (d, ds, refl, c, cs))

  -- a world that obeys the literals has a complete tree, over the n levels that are left
  abbrev Builds : ℕ → ℕ → Type 0
  Builds n l = (w : ℕ) (xs : List Literal) → 7 ≤ l + n → w < length m.worlds → obeys_all (reading l w) xs ≡ true → (t : Tree) × Complete st l xs t

  part : (n l w : ℕ) → Builds n (suc l) → 7 ≤ suc l + n → w < length m.worlds → (d : ModalClause) → In d (fired (reading l w) (st.diamonds l)) → (t : Tree) × Complete st (suc l) (d.literal ∷ literals (fired (reading l w) (st.boxes l))) t
  part n l w build h k d i =
      let (j, t) = kept_in (λ (c : ModalClause). reading l w c.name) (st.diamonds l) i in
      let (x, s, q) = diamond_true st cl l (λ _. false) m.worlds w d j t (λ _. false) in
      build x _ h (successor_inside m w x k s) (and_from _ _ q (boxes_obeyed l w x s (fired (reading l w) (st.boxes l)) (λ b z. z)))

  tree_at : (n l : ℕ) → Builds n l
  tree_at zero l w xs h k o = (node (reading l w) none, (o, defined l w, ap (fired (reading l w)) (cl.diamonds l ∙ (diamonds_orderly st cl.naming l).last (omega arith))))
  tree_at (suc n) l w xs h k o =
      let (ts, c) = forest (suc l) (literals (fired (reading l w) (st.boxes l))) (fired (reading l w) (st.diamonds l)) (part n l w (tree_at n (suc l)) (omega arith) k) in
      (node (reading l w) ts, (o, defined l w, c))

  handle_obeyed : (w k : ℕ) → k < length st.rules → meets (says (rule_at st k)) m.worlds w ≡ true → reading 0 w (handle_of st k) ≡ true
  handle_obeyed w k h e = let (i, _, n, q) = handle_at st k (cl.naming.handled k h) in ap (reading 0 w) n ∙ (reading_name st 0 i (λ _. false) m.worlds w ∙ (ap (reads_name st false m.worlds w) q ∙ e))

  handles_obeyed : (w : ℕ) (ks : List ℕ) → ((k : ℕ) → In k ks → reading 0 w (handle_of st k) ≡ true) → obeys_all (reading 0 w) (handles st ks) ≡ true
  handles_obeyed w [] h = refl
  handles_obeyed w (k ∷ ks) h = and_from _ _ (h k here) (handles_obeyed w ks (λ j i. h j (there i)))

  pub met_tree : (asked : List ℕ) → ((k : ℕ) → In k asked → k < length st.rules) → (w : ℕ) → w < length m.worlds → ((k : ℕ) → In k asked → meets (says (rule_at st k)) m.worlds w ≡ true) → (t : Tree) × Complete st 0 (handles st asked) t
  met_tree asked known w h met = tree_at 7 0 w _ (omega arith) h (handles_obeyed w asked (λ k i. handle_obeyed w k (known k i) (met k i)))

module _ (rules : List (List Row)) (st : State) (held : HeldBy rules st) where
  asked_held : (k : ℕ) → In k (numbers rules) → k < length st.rules
  asked_held k i = let (_, h) = range_in 0 (length rules) k i in let e = ap length held.rules_held in omega arith

  meeting_at : (met : MetBy rules) (k : ℕ) → In k (numbers rules) → meets (says (rule_at st k)) met.model.worlds met.at ≡ true
  meeting_at met k i =
      let (_, h) = range_in 0 (length rules) k i in
      subst (λ rs. meets (says (get_or rs k [])) met.model.worlds met.at ≡ true) (sym held.rules_held) (every_in (λ rows. meets (says rows) met.model.worlds met.at) (get_or_in rules k [] (omega arith)) met.meeting)

  pub all_met_tree : MetBy rules → (t : Tree) × Complete st 0 (handles st (numbers rules)) t
  all_met_tree met = met_tree st held.clausal met.model (numbers rules) asked_held met.at met.inside (meeting_at met)

  module _ (t : Tree) (whole : Complete st 0 (handles st (numbers rules)) t) where
    pub handle_in : (u : Tree) → Complete st 0 (handles st (numbers rules)) u → (k : ℕ) → In k (numbers rules) → root u (handle_of st k) ≡ true
    handle_in (node v ts) c k i = every_in _ (in_handles st i) c.0

    pub root_meeting : (k : ℕ) → In k (numbers rules) → meets (says (rule_at st k)) (worlds 0 t) 0 ≡ true
    root_meeting k i = (root_meets st held.clausal 0 (handles st (numbers rules)) t whole).handles k (asked_held k i) refl (handle_in t whole k i)

    pub met_by_root : MetBy rules
    met_by_root = record {
      model = model_of t;
      at = 0;
      inside = (model_of t).inhabited;
      meeting = every_from _ rules (λ rows i. (let (k, h, e) = in_get_or [] i in subst (λ z. meets (says z) (worlds 0 t) 0 ≡ true) (ap (λ rs. get_or rs k []) held.rules_held ∙ e) (root_meeting k (in_range 0 (length rules) k (omega arith) (omega arith)))));
    }
