use Rattle.std.proofs.Common.{◌≡◌, ◌+◌, ◌*◌, ◌≤◌, count_by, Bool, true, false, cond, refl, ap, ◌∙◌, arith}
use Rattle.std.specs.List.{range_with_len}
use Rattle.naming.specs.Order.{is_named}
use mir.Val.{bool_byte}
use Rattle.clausal.proofs.Rows.{lawful_rows}
use Rattle.naming.proofs.NamedPlaces.{named_places_length, named_places_few, names_counted}
use Rattle.naming.proofs.reached.ReachedRule.count_of_names.Goals as goal

byte_of : (b : Bool) → bool_byte b ≡ cond b 1 0
byte_of true = refl
byte_of false = refl

byte_small : (b : Bool) → bool_byte b ≤ 1
byte_small true = omega arith
byte_small false = omega arith

pub overflow_add-result : goal.overflow_add-result
overflow_add-result c =
    let n = c.count_named.ensures ∙ ap (λ l. count_by (is_named c.args.self.now.rows.now) (range_with_len (l * 128) 128)) c.from.ensures.0 ∙ named_places_length c.args.self.now.rows.now c.args.level in
    let few = named_places_few c.args.self.now.rows.now c.args.level 128 in
    omega (arith, c.from-handles.ensures, byte_small c.eq.result)

pub returns : goal.returns
returns c =
    let n = c.count_named.ensures ∙ ap (λ l. count_by (is_named c.args.self.now.rows.now) (range_with_len (l * 128) 128)) c.from.ensures.0 ∙ named_places_length c.args.self.now.rows.now c.args.level in
    let few = named_places_few c.args.self.now.rows.now c.args.level 128 in
    record {
      value = ap (λ k. k + c.from-handles.result) n ∙ names_counted c.args.self.now.rows.now (lawful_rows _ c.args.self.now.lawful) c.args.level _ (c.from-handles.ensures ∙ byte_of c.eq.result ∙ ap (λ b. cond b 1 0) c.eq.ensures);
      small = omega (arith, c.from-handles.ensures, byte_small c.eq.result);
    }
