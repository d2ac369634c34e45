use Rattle.std.proofs.Common.{◌≡◌, ℕ, ◌-◌, ◌^◌, ◌<◌, ◌≤◌, true, List, sym, ap, ◌∙◌, subst, arith}
use Rattle.std.proofs.lemmas.Bool.{both_ways}
use Rattle.std.proofs.lemmas.List.{take_all}
use Rattle.atoms.specs.Clauses.{Valuation, makes_all}
use Rattle.atoms.specs.Sets.{has}
use Rattle.atoms.specs.declared.assumptions.Assumptions.{Assumptions}
use Rattle.atoms.specs.declared.clauses.Entry.{Entry}
use Rattle.atoms.specs.declared.sets.AtomSet.{AtomSet}
use Rattle.atoms.proofs.Members.{has_none}
use Rattle.atoms.proofs.Making.{blank}
use Rattle.atoms.proofs.Obeying.{Follows, obeys_follows, follows_obeys, clash_never}
use Rattle.oracle.specs.Oracles.{Unsatisfiable}
use Rattle.plain.specs.Counts.{Part, NextPart}
use Rattle.plain.proofs.Counting.{part_le}
use Rattle.plain.proofs.Completing.{complete, counted_follows, failed_here, fail_more, fail_all, first}
use Rattle.plain.proofs.count.Goals as goal

unsatisfiable : (w : Assumptions) (es : List Entry) → ((v : Valuation) → Follows v w → makes_all v es ≡ true → ⊥) → Unsatisfiable w es
unsatisfiable w es h v o m = h v (obeys_follows v w o) m

pub returns-then-clashes : goal.returns-then-clashes
returns-then-clashes c =
    let k : Unsatisfiable c.args.under c.args.entries.now =
    λ v o m. clash_never c.args.under (sym c.clashes.ensures.answer ∙ c.if-clashes.true) v (obeys_follows v c.args.under o) in
    record { finds = k; order = k }

pub next-init : goal.next-init
next-init c = (λ i h. absurd (both_ways _ (has_none i) h), (λ u lu p l. absurd (let z : ⊥ = omega arith in z)), omega arith)

falls : (u v m f : AtomSet) → u ≡ v → f.bits < 2 ^ 64 → m.bits < 2 ^ 64 → NextPart u.bits f.bits m.bits → f.bits - m.bits < f.bits - v.bits
falls u v m f e lf lm n =
    let le = part_le 64 m.bits f.bits lm n.part in
    let q : u.bits ≡ v.bits = ap (λ (s : AtomSet). s.bits) e in
    let l = n.more in
    omega arith

pub next-smaller : goal.next-smaller
next-smaller c = falls c.loop-entry.counted c.next.counted c.in_ok-counted.counted c.free-free.result c.loop-entry.invariant.1 (omega arith) (omega arith) c.in_ok-counted.ensures

least : (u v f m : AtomSet) → u ≡ v → NextPart u.bits f.bits m.bits → (n : ℕ) → n < 2 ^ 64 → Part n f.bits → v.bits < n → m.bits ≤ n
least u v f m e h = subst (λ (s : AtomSet). (n : ℕ) → n < 2 ^ 64 → Part n f.bits → s.bits < n → m.bits ≤ n) e h.least

pub next-preserved : goal.next-preserved
next-preserved c =
    let v : AtomSet = c.next.counted in (
      c.in_ok-counted.ensures.part,
      fail_more c.args.entries.now c.args.under c.free-free.result.bits v.bits c.in_ok-counted.counted.bits c.next.invariant.1
          (failed_here c.args.entries.now c.args.under v.bits c.union-valuation.result c.loop-entry.entry-index blank c.loop-entry-test.true
          c.union-valuation.ensures c.if-not-holds.ensures)
          (least c.loop-entry.counted v c.free-free.result c.in_ok-counted.counted c.loop-entry.invariant.1 c.in_ok-counted.ensures),
      omega arith,
    )

pub returns-in_err-counted : goal.returns-in_err-counted
returns-in_err-counted c =
    let v : AtomSet = c.next.counted in
    let last : v.bits ≡ c.free-free.result.bits = ap (λ (s : AtomSet). s.bits) (sym c.loop-entry.invariant.1) ∙ c.in_err-counted.ensures in
    let k : Unsatisfiable c.args.under c.args.entries.now =
    unsatisfiable c.args.under c.args.entries.now (complete c.args.entries.now c.args.under c.free-free.result.bits c.free-free.ensures
    (fail_all c.args.entries.now c.args.under c.free-free.result.bits v.bits last c.next.invariant.1
    (failed_here c.args.entries.now c.args.under v.bits c.union-valuation.result c.loop-entry.entry-index blank c.loop-entry-test.true
    c.union-valuation.ensures c.if-not-holds.ensures))) in
    rw c.from_residual.ensures (record { finds = k; order = k })

pub returns-in-next : goal.returns-in-next
returns-in-next c =
    let m : makes_all (has c.union-valuation.result) c.args.entries.now ≡ true =
    subst (λ (es : List Entry). makes_all (has c.union-valuation.result) es ≡ true) (take_all _ _ c.loop-entry-test.false) c.loop-entry.invariant.0 in
    record {
      finds = record {
        obeyed = follows_obeys (has c.union-valuation.result) c.args.under (counted_follows c.args.entries.now c.args.under c.free-free.result.bits c.next.counted.bits c.union-valuation.result
            (c.clashes.ensures.apart c.if-clashes.false) c.free-free.ensures c.next.invariant.0 c.union-valuation.ensures);
        made = m;
      };
      order = first c.args.entries.now c.args.under c.free-free.result.bits c.next.counted.bits c.union-valuation.result.bits (omega arith) (omega arith) c.next.invariant.2
          c.free-free.ensures c.next.invariant.0 c.union-valuation.ensures m c.next.invariant.1;
    }
