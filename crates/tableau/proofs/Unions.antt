-- Two Kripke models side by side: the worlds of the second stand after those of the first, and each world meets what it met before.
use Rattle.std.proofs.Common.{◌≡◌, ℕ, zero, suc, ◌+◌, ◌<◌, not, ◌&&◌, ◌||◌, List, [], ◌∷◌, ◌++◌, length, map, sym, refl, ap, ◌∙◌, ap₂, inl, inr, subst, arith, length-append}
use Rattle.std.proofs.lemmas.List.{get_or_append_left, get_or-append-add, length-map}
use Rattle.std.proofs.lemmas.List.Folds.{list_all-map}
use Rattle.lists.specs.Lists.{every, some, In}
use Rattle.lists.proofs.Tests.{every_same, some_same, some_map}
use Rattle.lists.proofs.Members.{get_or_in, in_either}
use Rattle.lists.proofs.Maps.{mapped_in}
use Rattle.modal.specs.Kripke.{Formula, falsum, verum, letter, neg, conj, disj, box, dia, World, bare, world, meets}

-- every successor of the worlds is one of the first b worlds
abbrev pub Closed : ℕ → List World → Type 0
Closed b ws = (x : World) → In x ws → (v : ℕ) → In v x.successors → v < b

-- the first worlds do not see those after them
module _ (ws vs : List World) (closed : Closed (length ws) ws) where
  world_front : (w : ℕ) → w < length ws → world (ws ++ vs) w ≡ world ws w
  world_front w h = get_or_append_left ws vs bare w h

  inside_front : (w : ℕ) → w < length ws → (v : ℕ) → In v (world ws w).successors → v < length ws
  inside_front w h v i = closed (world ws w) (get_or_in ws w bare h) v i

  pub meets_front : (f : Formula) (w : ℕ) → w < length ws → meets f (ws ++ vs) w ≡ meets f ws w
  meets_front falsum w h = refl
  meets_front verum w h = refl
  meets_front (letter a) w h = ap (λ (x : World). x.letters a) (world_front w h)
  meets_front (neg f) w h = ap not (meets_front f w h)
  meets_front (conj f g) w h = ap₂ (λ a b. a && b) (meets_front f w h) (meets_front g w h)
  meets_front (disj f g) w h = ap₂ (λ a b. a || b) (meets_front f w h) (meets_front g w h)
  meets_front (box f) w h =
      ap (λ (x : World). every (meets f (ws ++ vs)) x.successors) (world_front w h) ∙ every_same _ _ (world ws w).successors (λ v i. meets_front f v (inside_front w h v i))
  meets_front (dia f) w h =
      ap (λ (x : World). some (meets f (ws ++ vs)) x.successors) (world_front w h) ∙ some_same _ _ (world ws w).successors (λ v i. meets_front f v (inside_front w h v i))

-- the world, with n worlds more before those of its model
abbrev pub later : ℕ → World → World
later n x = record { letters = x.letters; successors = map (λ v. n + v) x.successors }

world_later : (n : ℕ) (ws : List World) (w : ℕ) → world (map (later n) ws) w ≡ later n (world ws w)
world_later n [] w = refl
world_later n (x ∷ ws) zero = refl
world_later n (x ∷ ws) (suc w) = world_later n ws w

module _ (us ws : List World) where
  abbrev both : List World
  both = us ++ map (later (length us)) ws

  world_back : (w : ℕ) → world both (length us + w) ≡ later (length us) (world ws w)
  world_back w = get_or-append-add us (map (later (length us)) ws) w bare ∙ world_later (length us) ws w

  pub meets_back : (f : Formula) (w : ℕ) → meets f both (length us + w) ≡ meets f ws w
  meets_back falsum w = refl
  meets_back verum w = refl
  meets_back (letter a) w = ap (λ (x : World). x.letters a) (world_back w)
  meets_back (neg f) w = ap not (meets_back f w)
  meets_back (conj f g) w = ap₂ (λ a b. a && b) (meets_back f w) (meets_back g w)
  meets_back (disj f g) w = ap₂ (λ a b. a || b) (meets_back f w) (meets_back g w)
  meets_back (box f) w =
      ap (λ (x : World). every (meets f both) x.successors) (world_back w)
      ∙ (list_all-map (meets f both) (λ v. length us + v) (world ws w).successors ∙ every_same _ _ (world ws w).successors (λ v i. meets_back f v))
  meets_back (dia f) w =
      ap (λ (x : World). some (meets f both) x.successors) (world_back w)
      ∙ (some_map (λ v. length us + v) (meets f both) (world ws w).successors ∙ some_same _ _ (world ws w).successors (λ v i. meets_back f v))

-- two closed models side by side are closed
pub closed_both : (us ws : List World) → Closed (length us) us → Closed (length ws) ws → Closed (length (us ++ map (later (length us)) ws)) (us ++ map (later (length us)) ws)
closed_both us ws h k x i v j =
    let long : length (us ++ map (later (length us)) ws) ≡ length us + length ws = length-append us (map (later (length us)) ws) ∙ ap (λ n. length us + n) (length-map ws (later (length us))) in
    elim (in_either us (map (later (length us)) ws) i) [
      | inl l ↦ (let small = h x l v j in omega arith)
      | inr r ↦
          let (y, m, e) = mapped_in (later (length us)) ws r in
          let (u, n, q) = mapped_in (λ z. length us + z) y.successors (subst (λ (z : World). In v z.successors) (sym e) j) in
          let small = k y m u n in omega arith
    ]
