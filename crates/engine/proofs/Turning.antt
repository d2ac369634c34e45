-- What the calls on the stack and on sets give, as the turns of a question want it.
use Rattle.std.proofs.Common.{◌≡◌, ℕ, suc, ◌^◌, ◌<◌, ◌≢◌, Bool, true, false, cond, ◌&&◌, eqb, ltb, inr, List, [], ◌∷◌, ◌++◌, length, take, Option, Some, None, refl, sym, ap, ◌∙◌, subst, arith}
use Rattle.std.specs.List.{find}
use Rattle.std.specs.Option.{option_to_list}
use Rattle.std.proofs.lemmas.Bool.{lt-ltb, eqb-true, eqb-false, false_from_ne_true}
use Rattle.std.proofs.lemmas.List.{length-append, length-take-le}
use Rattle.lists.specs.Lists.{In, here, there}
use Rattle.atoms.specs.Bits.{bit}
use Rattle.atoms.specs.Clauses.{Valuation}
use Rattle.atoms.specs.Sets.{has, letters_of, LowestIn}
use Rattle.atoms.specs.declared.sets.AtomSet.{AtomSet}
use Rattle.atoms.proofs.Below.{letters_are}
use Rattle.clausal.specs.States.{fired}
use Rattle.clausal.specs.declared.modal_clauses.ModalClause.{ModalClause}
use Rattle.engine.specs.Pending.{NextOf}
use Rattle.engine.specs.declared.frames.Frame.{Frame}
use Rattle.engine.specs.Worlds.{no_frame, frame_at}
use Rattle.engine.proofs.Stacked.{Topped, top_put, below_slots, replaced, put}
use Rattle.firing.specs.Firing.{NamesOf}
use Rattle.stack.specs.Entries.{entries_of, below_top}
use Rattle.stack.specs.declared.Stack.{Stack}

-- the letters of a valuation, from a set
pub letters_cut : (v s : AtomSet) → s.bits < 2 ^ 64 → ((i : ℕ) → has s i ≡ has v i && bit 32767 i) → s ≡ letters_of (has v)
letters_cut v s h e = ap (λ (n : ℕ). record { bits = n }) (letters_are v.bits s.bits h e)

-- the top, as it is read
pub top_is : (s : Stack Frame) (l : ℕ) (o : Option Frame) (x : Frame) → entries_of s ≡ below_top s ++ option_to_list o → o ≡ Some x → length (entries_of s) ≡ suc l → x ≡ frame_at (entries_of s) l
top_is s l o x e is long =
    let below = below_top s in
    let f : entries_of s ≡ below ++ x ∷ [] = e ∙ ap (λ (p : Option Frame). below ++ option_to_list p) is in
    let n = ap length f in
    let m = length-append below (x ∷ []) in
    sym (ap (λ (gs : List Frame). frame_at gs l) f ∙ top_put below l x no_frame (omega arith))

-- the frames once the top is replaced by what it turns into
pub top_becomes : (s : Stack Frame) (l : ℕ) (gs : List Frame) (x : Frame) (into : Frame → Frame) → length (entries_of s) ≡ suc l → x ≡ frame_at (entries_of s) l → gs ≡ cond (ltb 0 (length (entries_of s))) (below_top s ++ into x ∷ []) (entries_of s) → Topped no_frame (entries_of s) gs l (into (frame_at (entries_of s) l))
top_becomes s l gs x into long read put =
    let fs : List Frame = entries_of s in
    let k : s.len ≡ suc l = (let t = length-take-le s.len s.slots.now s.within in omega arith) in
    let e : gs ≡ take l fs ++ into x ∷ [] = put ∙ ap (λ (b : Bool). cond b (below_top s ++ into x ∷ []) fs) (lt-ltb 0 (length fs) (omega arith)) ∙ ap (λ (t : List Frame). t ++ into x ∷ []) (below_slots s.slots.now s.len l k) in
    subst (λ (y : Frame). Topped no_frame fs gs l (into y)) read (subst (λ (t : List Frame). Topped no_frame fs t l (into x)) (sym e) (replaced no_frame fs l (into x) long))

-- the frames with one more on top
pub put_on : (fs gs : List Frame) (room l : ℕ) (f : Frame) → length fs ≡ l → l < room → gs ≡ cond (ltb (length fs) room) (fs ++ f ∷ []) fs → Topped no_frame fs gs l f
put_on fs gs room l f long fits is =
    let e : gs ≡ fs ++ f ∷ [] = is ∙ ap (λ (b : Bool). cond b (fs ++ f ∷ []) fs) (lt-ltb (length fs) room (omega arith)) in
    subst (λ (t : List Frame). Topped no_frame fs t l f) (sym e) (put no_frame fs l f long)

-- what a look-up by name finds, and where it finds nothing
pub find_listed : (ds : List ModalClause) (a : ℕ) (d : ModalClause) → find (λ e. eqb e.name a) ds ≡ Some d → In d ds × (d.name ≡ a)
find_listed [] a d e = cc
find_listed (x ∷ ds) a d e = pick (eqb x.name a) refl e (find_listed ds a d)
  where
    pick : (b : Bool) → eqb x.name a ≡ b → cond b (Some x) (find (λ e. eqb e.name a) ds) ≡ Some d → (find (λ e. eqb e.name a) ds ≡ Some d → In d ds × (d.name ≡ a)) → In d (x ∷ ds) × (d.name ≡ a)
    pick true q f r = let s : x ≡ d = cc in (subst (λ (y : ModalClause). In y (x ∷ ds)) s here, ap (λ (y : ModalClause). y.name) (sym s) ∙ eqb-true x.name a q)
    pick false q f r = let (i, n) = r f in (there i, n)

missed_from : (b : Bool) (x d : ModalClause) (ds : List ModalClause) (a : ℕ) → eqb x.name a ≡ b → cond b (Some x) (find (λ e. eqb e.name a) ds) ≡ None → In d (x ∷ ds) → (find (λ e. eqb e.name a) ds ≡ None → In d ds → d.name ≢ a) → d.name ≢ a
missed_from true x d ds a q f i r = absurd (let z : ⊥ = cc in z)
missed_from false x d ds a q f here r = eqb-false x.name a q
missed_from false x d ds a q f (there i) r = r f i

pub find_missed : (ds : List ModalClause) (a : ℕ) → find (λ e. eqb e.name a) ds ≡ None → (d : ModalClause) → In d ds → d.name ≢ a
find_missed [] a e d i = elim i [ ]
find_missed (x ∷ ds) a e d i = missed_from (eqb x.name a) x d ds a refl e i (λ f. find_missed ds a f d)

-- the next clause, as the lowest name still to visit is looked up
pub next_found : (ds : List ModalClause) (unvisited : AtomSet) (a : ℕ) (r : Option ModalClause) → LowestIn unvisited a → r ≡ find (λ e. eqb e.name a) ds → NextOf ds unvisited r
next_found ds unvisited a None low e = inr (a, low, find_missed ds a (sym e))
next_found ds unvisited a (Some d) low e = let (i, n) = find_listed ds a d (sym e) in record { listed = i; lowest = subst (LowestIn unvisited) (sym n) low }

-- where no clause is listed, none fires
pub none_named : (s : AtomSet) (v : Valuation) (ds : List ModalClause) → NamesOf s (fired v ds) → ds ≡ [] → (a : ℕ) → has s a ≡ false
none_named s v ds n e a = false_from_ne_true (has s a) (λ h. let o = n.only a h in elim (subst (λ (es : List ModalClause). In o.0 (fired v es)) e o.1) [ ])

-- the first frame
pub put_first : (fs gs : List Frame) (room : ℕ) (f : Frame) → fs ≡ [] → 0 < room → gs ≡ cond (ltb (length fs) room) (fs ++ f ∷ []) fs → gs ≡ f ∷ []
put_first fs gs room f none fits is = is ∙ ap (λ (b : Bool). cond b (fs ++ f ∷ []) fs) (lt-ltb (length fs) room (let n = ap length none in omega arith)) ∙ ap (λ (t : List Frame). t ++ f ∷ []) none
