-- The bytes of a rule that is written, and that what is read and written again is the same.
use Rattle.std.proofs.Common.{◌≡◌, ℕ, zero, suc, ◌+◌, ◌<◌, ◌≤◌, true, List, [], ◌∷◌, ◌++◌, length, get_or, take, drop, Ok, Err, sym, ap, ◌∙◌, append_assoc, append-nil, arith}
use Rattle.std.proofs.lemmas.Grind.{common_steps}
use Rattle.std.proofs.lemmas.List.{flat_map_more, take_at}
use Rattle.std.proofs.lemmas.Slice.{drop-append-drop}
use Rattle.std.proofs.lemmas.List.Concat.{length-flat_map}
use Rattle.std.proofs.lemmas.Bool.Decides.{nat_tests}
use Rattle.std.specs.List.{sum_by}
use Rattle.modal.proofs.Built.{built_push, few_rows, fits}
use Rattle.modal.specs.Format.{body_length, row_of, parse, parsed, bytes_of, written}
use Rattle.modal.specs.Rows.{row_depths, depth_of, row_fits, all_fit, lawful}
use Rattle.modal.specs.Rules.{Writes}
use Rattle.modal.specs.declared.faults.WriteFault.TheVariants.{TooShort}
use Rattle.modal.specs.declared.row.Row.{Row}

pub written_size : (rs : List Row) → length (written rs) ≡ sum_by (λ r. length (bytes_of r)) rs
written_size rs = length-flat_map bytes_of rs

-- what a row more is to what is written: its bytes stand behind those of the rows before, and the rest is as it was
pub put_more : (w b out₀ out out' : List ℕ) (at : ℕ) → length w ≡ at → out ≡ w ++ drop at out₀ → out' ≡ take at out ++ (b ++ drop (at + length b) out) → out' ≡ (w ++ b) ++ drop (at + length b) out₀
put_more w b out₀ out out' at l e h =
    let front = ap (take at) e ∙ take_at w (drop at out₀) at l in
    let back = ap (drop (at + length b)) e ∙ drop-append-drop at out₀ w (at + length b) (omega arith) l in
    h ∙ (λ i. front i ++ (b ++ back i)) ∙ sym (append_assoc w b (drop (at + length b) out₀))

-- a row's bytes are those that it was read from
front_of : (k : ℕ) (bs : List ℕ) → k ≤ 7 → body_length k ≤ length bs → bytes_of (row_of k (get_or bs 0 0) (get_or bs 1 0)) ++ drop (body_length k) bs ≡ k ∷ bs
front_of k bs h l = grind (arith, common_steps, nat_tests)

parse_back : (n : ℕ) (rs : List Row) (b : ℕ) (bs : List ℕ) (out : List Row) → parse n rs b bs ≡ Ok out → written out ≡ written rs ++ bs
parse_back n rs b [] out h = grind (arith, common_steps)
parse_back zero rs b (k ∷ bs) out h = cc
parse_back (suc n) rs b (k ∷ bs) out h =
    let r = row_of k (get_or bs 0 0) (get_or bs 1 0) in
    grind (arith, common_steps, nat_tests, parse_back n (rs ++ r ∷ []) (b + 1 + body_length k) (drop (body_length k) bs) out, flat_map_more bytes_of [] rs r, front_of k bs)

-- bytes that are read and written again are the same bytes
pub round_trip : (bs : List ℕ) (rs : List Row) → parse 64 [] 0 bs ≡ Ok rs → written rs ≡ bs
round_trip bs rs h = parse_back 64 [] 0 bs rs h

-- bytes that are some say some rows
pub read_some : (bs : List ℕ) (rs : List Row) → parse 64 [] 0 bs ≡ Ok rs → 0 < length bs → 0 < length rs
read_some bs [] h l = omega (arith, ap length (round_trip bs [] h))
read_some bs (r ∷ rs) h l = omega arith

-- and the rows that they say
pub parsed_of : (bs : List ℕ) (rs : List Row) → parse 64 [] 0 bs ≡ Ok rs → 0 < length rs → parsed bs ≡ Ok rs
parsed_of [] rs h l = let e : [] ≡ rs = cc in absurd (omega (arith, ap length e))
parsed_of (b ∷ bs) rs h l = h

-- the bytes of a row that fits are read as that row
row_forth : (m : ℕ) (pre : List Row) (b : ℕ) (r : Row) (w : List ℕ) → row_fits (row_depths pre) r ≡ true → parse (suc m) pre b (bytes_of r ++ w) ≡ parse m (pre ++ r ∷ []) (b + length (bytes_of r)) w
row_forth m pre b r w f = grind (arith, common_steps, nat_tests)

parse_forth : (n : ℕ) (pre : List Row) (b : ℕ) (rs : List Row) → all_fit (row_depths pre) rs ≡ true → length rs ≤ n → parse n pre b (written rs) ≡ Ok (pre ++ rs)
parse_forth n pre b [] h l = ap Ok (sym (append-nil pre))
parse_forth zero pre b (r ∷ rs) h l = absurd (omega arith)
parse_forth (suc n) pre b (r ∷ rs) h l =
    grind (arith, common_steps, row_forth n pre b r (written rs), parse_forth n (pre ++ r ∷ []) (b + length (bytes_of r)) rs, built_push depth_of [] pre r)

-- the bytes of a rule say its rows again
pub read_back : (rs : List Row) → lawful rs ≡ true → parsed (written rs) ≡ Ok rs
read_back [] h = cc
read_back (r ∷ rs) h =
    parsed_of (written (r ∷ rs)) (r ∷ rs) (parse_forth 64 [] 0 (r ∷ rs) (fits (r ∷ rs) h) (few_rows (r ∷ rs) h)) (omega arith)

-- a rule and a buffer that is too short for it, or long enough
module _ (rows : List Row) (ok : lawful rows ≡ true) (out : List ℕ) (n : ℕ) (size : n ≡ length (written rows)) where
  pub refuses : length out < n → Writes rows out out (Err (TooShort n))
  refuses h = let again = read_back rows ok in grind (arith, common_steps, nat_tests)

  pub writes : n ≤ length out → (after : List ℕ) → after ≡ written rows ++ drop (length (written rows)) out → Writes rows out after (Ok n)
  writes h after e = let again = read_back rows ok in grind (arith, common_steps, nat_tests)
