-- Modal clauses by rising names: parts of a list that rises rise, and a name stands for one clause.
use Rattle.std.proofs.Common.{◌≡◌, ◌^◌, ◌<◌, Bool, true, false, cond, List, [], ◌∷◌, ◌++◌, filter, refl, arith}
use Rattle.lists.specs.Lists.{In, here, there}
use Rattle.lists.proofs.Members.{in_left, in_right, kept_in}
use Rattle.atoms.specs.Sets.{has}
use Rattle.atoms.specs.declared.sets.AtomSet.{AtomSet}
use Rattle.clausal.specs.Clausal.{Rising}
use Rattle.clausal.specs.States.{fired}
use Rattle.clausal.specs.declared.modal_clauses.ModalClause.{ModalClause}
use Rattle.firing.proofs.Gathering.{member_small}

pub rising_back : (ds es : List ModalClause) → Rising (ds ++ es) → Rising es
rising_back [] es r = r
rising_back (d ∷ ds) es r = rising_back ds es r.1

pub rising_kept : (p : ModalClause → Bool) (ms : List ModalClause) → Rising ms → Rising (filter p ms)
rising_kept p [] r = tt
rising_kept p (m ∷ ms) r = go (p m) (rising_kept p ms r.1)
  where
    go : (b : Bool) → Rising (filter p ms) → Rising (cond b (m ∷ filter p ms) (filter p ms))
    go true q = (λ e i. r.0 e (kept_in p ms i).0, q)
    go false q = q

-- each name once
pub rising_once : (ds : List ModalClause) (x y : ModalClause) → Rising ds → In x ds → In y ds → x.name ≡ y.name → x ≡ y
rising_once [] x y r i j e = elim i [ ]
rising_once (d ∷ ds) x y r here here e = refl
rising_once (d ∷ ds) x y r here (there j) e = let h = r.0 y j in absurd (omega arith)
rising_once (d ∷ ds) x y r (there i) here e = let h = r.0 x i in absurd (omega arith)
rising_once (d ∷ ds) x y r (there i) (there j) e = rising_once ds x y r.1 i j e

-- clauses that a loop can go over: by rising names, which are atoms
pub record RisingAtoms (d : ModalClause) (ms : List ModalClause) : Type 0 where
  pub rising : Rising ms
  pub small : (m : ModalClause) → In m ms → m.name < 64
  pub named : d.name < 64

-- the clauses before the last, and that they have lower names
pub record LastRises (d : ModalClause) (ms : List ModalClause) (m : ModalClause) : Type 0 where
  pub before : RisingAtoms d ms
  pub lower : (a : ModalClause) → In a ms → a.name < m.name
  pub small : m.name < 64

pub last_rises : (d : ModalClause) (ms : List ModalClause) (m : ModalClause) → RisingAtoms d (ms ++ m ∷ []) → LastRises d ms m
last_rises d ms m s = record {
  before = record { rising = front ms s.rising; small = λ a i. s.small a (in_left (m ∷ []) i); named = s.named };
  lower = λ a. below ms a s.rising;
  small = s.small m (in_right ms here);
}
  where
    front : (ms : List ModalClause) → Rising (ms ++ m ∷ []) → Rising ms
    front [] r = tt
    front (x ∷ ms) r = (λ e i. r.0 e (in_left (m ∷ []) i), front ms r.1)

    below : (ms : List ModalClause) (a : ModalClause) → Rising (ms ++ m ∷ []) → In a ms → a.name < m.name
    below [] a r i = elim i [ ]
    below (x ∷ ms) a r here = r.0 m (in_right ms here)
    below (x ∷ ms) a r (there i) = below ms a r.1 i

pub fired_rise : (v : AtomSet) → v.bits < 2 ^ 64 → (d : ModalClause) (ms : List ModalClause) → Rising ms → d.name < 64 → RisingAtoms d (fired (has v) ms)
fired_rise v f d ms r h = record { rising = rising_kept (λ m. has v m.name) ms r; small = λ m i. member_small v f m.name (kept_in (λ m. has v m.name) ms i).1; named = h }
