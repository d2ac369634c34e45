-- The definitions of a list have nothing learnt among them.
use Rattle.std.proofs.Common.{◌≡◌, Bool, true, false, not, List, [], sym, refl}
use Rattle.lists.proofs.Members.{kept_in, kept_nothing}
use Rattle.atoms.specs.Clauses.{is_learnt, is_definition, learnt, definitions}
use Rattle.atoms.specs.declared.clauses.Entry.{Entry}

pub none_learnt : (es : List Entry) → learnt (definitions es) ≡ []
none_learnt es = kept_nothing is_learnt (definitions es) (λ e i. off (is_learnt e) (kept_in is_definition es i).1)
  where
    off : (b : Bool) → not b ≡ true → b ≡ false
    off true q = sym q
    off false q = refl
