-- What the numbers of turns come to, and of entries that can still be learnt.
use Rattle.std.proofs.Common.{◌≡◌, ℕ, zero, suc, ◌+◌, ◌-◌, ◌*◌, ◌^◌, ◌<◌, ◌≤◌, Bool, true, false, cond, ◌⊎◌, inl, inr, List, length, sym, refl, ap, ◌∙◌, subst, mul-le-mul_right, add-mul, one-mul, arith, lit<}
use Rattle.std.proofs.lemmas.Bool.{cases_lt}
use Rattle.atoms.specs.Clauses.{learnt}
use Rattle.atoms.specs.Sets.{count_below}
use Rattle.engine.specs.Termination.{world_turns, turns_at, visit_turns, visits_left, waiting_turns, question_turns, learnable_below}
use Rattle.engine.specs.declared.frames.Frame.{Frame}
use Rattle.oracle.specs.Oracles.{Lists}
use Rattle.engine.specs.Worlds.{frame_at}

world_turns_least : (h : ℕ) → 3 ≤ world_turns h
unfolding world_turns
world_turns_least zero = omega arith
world_turns_least (suc h) = omega arith

pub turns_least : (l : ℕ) → 3 ≤ turns_at l
unfolding turns_at
turns_least l = world_turns_least (7 - l)

pub turns_step : (l : ℕ) → l < 7 → turns_at l ≡ 65 * (turns_at (suc l) + 2) + 3
unfolding turns_at world_turns
turns_step l h = let e : 7 - l ≡ suc (7 - suc l) = omega arith in ap world_turns e

-- every number of worlds fits 64 bits
pub all_fits : question_turns < 2 ^ 64
unfolding turns_at world_turns
all_fits = lit< tt

pub more_times : (m n v : ℕ) → m + 1 ≡ n → n * v ≡ m * v + v
more_times m n v e = ap (λ (x : ℕ). x * v) (sym e) ∙ add-mul m 1 v ∙ ap (λ (x : ℕ). m * v + x) (one-mul v)

count_at_most : (n : ℕ) (p : ℕ → Bool) → count_below n p ≤ n
unfolding count_below
count_at_most zero p = omega arith
count_at_most (suc n) p = go (p n) (count_at_most n p)
  where
    go : (b : Bool) → count_below n p ≤ n → cond b 1 0 + count_below n p ≤ suc n
    go true h = omega arith
    go false h = omega arith

count_none : (n : ℕ) (p : ℕ → Bool) → ((i : ℕ) → p i ≡ false) → count_below n p ≡ 0
unfolding count_below
count_none zero p h = refl
count_none (suc n) p h =
    let e : ◌≡◌ {A = ℕ} (cond (p n) 1 0) 0 = ap (λ (b : Bool). cond {A = ℕ} b 1 0) (h n) in
    let r = count_none n p h in
    omega arith

pub waiting_same : (fs gs : List Frame) (l : ℕ) → ((k : ℕ) → k < l → frame_at gs k ≡ frame_at fs k) → waiting_turns gs l ≡ waiting_turns fs l
unfolding waiting_turns
waiting_same fs gs zero e = refl
waiting_same fs gs (suc l) e =
    let a : waiting_turns gs l ≡ waiting_turns fs l = waiting_same fs gs l (λ k h. e k (omega arith)) in
    let b : visits_left (frame_at gs l) * visit_turns l ≡ visits_left (frame_at fs l) * visit_turns l = ap (λ (f : Frame). visits_left f * visit_turns l) (e l (omega arith)) in
    omega arith

pub waiting_more : (fs : List Frame) (l : ℕ) → waiting_turns fs (suc l) ≡ waiting_turns fs l + (visits_left (frame_at fs l) * visit_turns l + 3)
unfolding waiting_turns
waiting_more fs l = refl

-- what holds up to a number, and of the next
pub up_to : (P : ℕ → Type 0) (l : ℕ) → ((i : ℕ) → i < l → P i) → P l → (i : ℕ) → i ≤ l → P i
up_to P l below here i h = elim (cases_lt i l) [ inl lt ↦ below i lt | inr ge ↦ (let e : l ≡ i = omega arith in subst P e here) ]

pub spare_same : (before after : Lists) (n : ℕ) → ((k : ℕ) → k < n → after k ≡ before k) → learnable_below after n ≡ learnable_below before n
unfolding learnable_below
spare_same before after zero e = refl
spare_same before after (suc n) e =
    let a : learnable_below after n ≡ learnable_below before n = spare_same before after n (λ k h. e k (omega arith)) in
    let b : length (learnt (after n)) ≡ length (learnt (before n)) = ap (λ es. length (learnt es)) (e n (omega arith)) in
    omega arith

-- one entry less to learn
pub spare_less : (before after : Lists) (l n : ℕ) → ((k : ℕ) → (k ≡ l → ⊥) → after k ≡ before k) → length (learnt (after l)) ≡ suc (length (learnt (before l))) → length (learnt (before l)) < 128 → l < n → learnable_below after n + 1 ≡ learnable_below before n
unfolding learnable_below
spare_less before after l zero oth one few h = absurd (omega arith)
spare_less before after l (suc n) oth one few h = pick (λ lt. spare_less before after l n oth one few lt) (cases_lt l n)
  where
    pick : (l < n → learnable_below after n + 1 ≡ learnable_below before n) → (l < n) ⊎ (n ≤ l) → learnable_below after n + (128 - length (learnt (after n))) + 1 ≡ learnable_below before n + (128 - length (learnt (before n)))
    pick rec (inl lt) =
        let a : learnable_below after n + 1 ≡ learnable_below before n = rec lt in
        let b : length (learnt (after n)) ≡ length (learnt (before n)) = ap (λ es. length (learnt es)) (oth n (λ e. omega arith)) in
        omega arith
    pick rec (inr ge) =
        let e : l ≡ n = omega arith in
        let a : learnable_below after n ≡ learnable_below before n = spare_same before after n (λ k lt. oth k (λ q. omega arith)) in
        let b : length (learnt (after n)) ≡ suc (length (learnt (before n))) = subst (λ (k : ℕ). length (learnt (after k)) ≡ suc (length (learnt (before k)))) e one in
        let f : length (learnt (before n)) < 128 = subst (λ (k : ℕ). length (learnt (before k)) < 128) e few in
        omega arith

-- seeking costs more than all the visits that it leads to
pub seek_costs : (l : ℕ) (p : ℕ → Bool) → (7 ≤ l → (i : ℕ) → p i ≡ false) → count_below 64 p * visit_turns l + 2 < turns_at l
seek_costs l p bot = pick (cases_lt l 7)
  where
    pick : (l < 7) ⊎ (7 ≤ l) → count_below 64 p * visit_turns l + 2 < turns_at l
    pick (inl lt) =
        let s = turns_step l lt in
        let m : count_below 64 p * visit_turns l ≤ 64 * visit_turns l = mul-le-mul_right (visit_turns l) (count_at_most 64 p) in
        omega arith
    pick (inr ge) =
        let z : count_below 64 p * visit_turns l ≡ 0 * visit_turns l = ap (λ (x : ℕ). x * visit_turns l) (count_none 64 p (bot ge)) in
        let w = turns_least l in
        omega arith
