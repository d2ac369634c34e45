-- The parts of a set of atoms in counting order.
use Rattle.std.proofs.Common.{◌≡◌, ℕ, zero, suc, ◌+◌, ◌-◌, ◌*◌, ◌/◌, ◌%◌, ◌^◌, ◌<◌, ◌≤◌, Bool, true, false, not, ◌&&◌, sym, refl, ap, ◌∙◌, arith}
use native.Mathlib.Nat.{pow-succ'}
use lib.Bits.{bit_and, bit_or, and_step, and_le_l, or_disjoint}
use Rattle.std.proofs.lemmas.Bool.Decides.{nat_tests}
use Rattle.atoms.specs.Bits.{bit}
use Rattle.plain.specs.Counts.{Part}
use Rattle.atoms.proofs.Members.{has_zero, has_suc, has_minus, has_nothing}

part_half : (u m : ℕ) → Part u m → Part (u / 2) (m / 2)
part_half u m p i h = sym (has_suc m i) ∙ p (suc i) (has_suc u i ∙ h)

-- the lowest digit of a part
part_low : (u m : ℕ) → Part u m → u % 2 ≤ m % 2
part_low u m p = grind (arith, nat_tests, has_zero u, has_zero m, p 0)

pub part_le : (k u m : ℕ) → u < 2 ^ k → Part u m → u ≤ m
part_le zero u m l p = omega arith
part_le (suc k) u m l p =
    let q = pow-succ' 2 k in
    let h : u / 2 ≤ m / 2 = part_le k (u / 2) (m / 2) (omega arith) (part_half u m p) in
    let low : u % 2 ≤ m % 2 = part_low u m p in
    omega arith

-- the part with the digits outside the mask all 1
keeps : (k m v : ℕ) → m < 2 ^ k → v < 2 ^ k → Part v m → bit_and (v + (2 ^ k - 1 - m)) m ≡ v
keeps zero m v lm lv p = let l = and_step (v + (2 ^ 0 - 1 - m)) m in let a = and_le_l (v + (2 ^ 0 - 1 - m)) m in omega arith
keeps (suc k) m v lm lv p =
    let q = pow-succ' 2 k in
    let low : v % 2 ≤ m % 2 = part_low v m p in
    let le : v / 2 < 2 ^ k = omega arith in
    let half : (v + (2 ^ suc k - 1 - m)) / 2 ≡ v / 2 + (2 ^ k - 1 - m / 2) = omega arith in
    let h : bit_and (v / 2 + (2 ^ k - 1 - m / 2)) (m / 2) ≡ v / 2 = keeps k (m / 2) (v / 2) (omega arith) le (part_half v m p) in
    let s = and_step (v + (2 ^ suc k - 1 - m)) m in
    let e : bit_and ((v + (2 ^ suc k - 1 - m)) / 2) (m / 2) ≡ v / 2 = ap (λ (a : ℕ). bit_and a (m / 2)) half ∙ h in
    omega arith

-- one more than that, under the mask, by the lowest digits of the mask and the part
next_step : (k m v : ℕ) → m < 2 ^ suc k → v < 2 ^ suc k → Part v m → v % 2 ≡ m % 2
    → bit_and (v + (2 ^ suc k - 1 - m) + 1) m ≡ bit_and (v / 2 + (2 ^ k - 1 - m / 2) + 1) (m / 2) * 2
next_step k m v lm lv p e =
    let q = pow-succ' 2 k in
    let half : (v + (2 ^ suc k - 1 - m) + 1) / 2 ≡ v / 2 + (2 ^ k - 1 - m / 2) + 1 = omega arith in
    let odd : (v + (2 ^ suc k - 1 - m) + 1) % 2 ≡ 0 = omega arith in
    let s = and_step (v + (2 ^ suc k - 1 - m) + 1) m in
    let h : bit_and ((v + (2 ^ suc k - 1 - m) + 1) / 2) (m / 2) ≡ bit_and (v / 2 + (2 ^ k - 1 - m / 2) + 1) (m / 2) = ap (λ (a : ℕ). bit_and a (m / 2)) half in
    omega arith

next_near : (k m v : ℕ) → m < 2 ^ suc k → v < 2 ^ suc k → Part v m → v % 2 < m % 2 → bit_and (v + (2 ^ suc k - 1 - m) + 1) m ≡ v + 1
next_near k m v lm lv p e =
    let q = pow-succ' 2 k in
    let half : (v + (2 ^ suc k - 1 - m) + 1) / 2 ≡ v / 2 + (2 ^ k - 1 - m / 2) = omega arith in
    let odd : (v + (2 ^ suc k - 1 - m) + 1) % 2 ≡ 1 = omega arith in
    let s = and_step (v + (2 ^ suc k - 1 - m) + 1) m in
    let h : bit_and ((v + (2 ^ suc k - 1 - m) + 1) / 2) (m / 2) ≡ v / 2 =
    ap (λ (a : ℕ). bit_and a (m / 2)) half ∙ keeps k (m / 2) (v / 2) (omega arith) (omega arith) (part_half v m p) in
    omega arith

pub record Next (k m v : ℕ) : Type 0 where
  pub more : v < m → v < bit_and (v + (2 ^ k - 1 - m) + 1) m
  pub least : (u : ℕ) → u < 2 ^ k → Part u m → v < u → bit_and (v + (2 ^ k - 1 - m) + 1) m ≤ u

next_far : (k m v : ℕ) → m < 2 ^ suc k → v < 2 ^ suc k → Part v m → v % 2 ≡ m % 2 → Next k (m / 2) (v / 2) → Next (suc k) m v
next_far k m v lm lv p e n =
    let s = next_step k m v lm lv p e in
    record {
      more = λ l. let h : v / 2 < bit_and (v / 2 + (2 ^ k - 1 - m / 2) + 1) (m / 2) = n.more (omega arith) in omega arith;
      least = λ u lu pu l.
          let q = pow-succ' 2 k in
          let low : u % 2 ≤ m % 2 = part_low u m pu in
          let h : bit_and (v / 2 + (2 ^ k - 1 - m / 2) + 1) (m / 2) ≤ u / 2 = n.least (u / 2) (omega arith) (part_half u m pu) (omega arith) in
          omega arith;
    }

pub next : (k m v : ℕ) → m < 2 ^ k → v < 2 ^ k → Part v m → Next k m v
next zero m v lm lv p = record { more = λ l. absurd (let z : ⊥ = omega arith in z); least = λ u lu pu l. absurd (let z : ⊥ = omega arith in z) }
next (suc k) m v lm lv p = at (v % 2) (m % 2) refl refl (let q = pow-succ' 2 k in next k (m / 2) (v / 2) (omega arith) (omega arith) (part_half v m p))
  where
    at : (a b : ℕ) → v % 2 ≡ a → m % 2 ≡ b → Next k (m / 2) (v / 2) → Next (suc k) m v
    at zero zero ea eb n = next_far k m v lm lv p (omega arith) n
    at zero (suc b) ea eb n = let s = next_near k m v lm lv p (omega arith) in record { more = λ l. omega arith; least = λ u lu pu l. omega arith }
    at (suc a) zero ea eb n = absurd (let low = part_low v m p in let z : ⊥ = omega arith in z)
    at (suc a) (suc b) ea eb n = next_far k m v lm lv p (omega arith) n

-- what the code computes
pub filled : (v m : ℕ) → v < 2 ^ 64 → m < 2 ^ 64 → Part v m → bit_or v (2 ^ 64 - 1 - m) ≡ v + (2 ^ 64 - 1 - m)
filled v m lv lm p =
    or_disjoint v (2 ^ 64 - 1 - m) (has_nothing 64 _ (let l = and_le_l v (2 ^ 64 - 1 - m) in omega arith)
    (λ i. has_minus v m i lv lm ∙ off (bit v i) (bit m i) (p i)))
  where
    off : (x y : Bool) → (x ≡ true → y ≡ true) → x && not y ≡ false
    off x y h = grind (arith, nat_tests, h)
