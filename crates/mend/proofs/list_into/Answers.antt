use Rattle.std.specs.Prelude.{◌≡◌, List, ◌++◌, ℕ, ◌-◌, ◌≤◌, length, take}
use Rattle.std.proofs.Common.{sym, ap, ◌∙◌, arith, append-nil, length-append, length-drop}
use Rattle.std.proofs.Math.ListN.{drop, drop_of_length-le, replicate}
use Rattle.std.proofs.lemmas.List.{drop_at, length-take-le, take_at}
use borrow.Rule.Slice.PartMut.{put_mid}
use Rattle.code.proofs.Mend.{places-eq}
use Rattle.code.specs.Layout.{no_place, place_list}
use Rattle.mend.proofs.list_into.Goals as goal

-- a list p in which l is written first, and then f in what is left
written : (p l f : List ℕ) (c : ℕ) → length l ≡ c → c ≤ length p → f ≡ replicate (length (take (length (l ++ drop c p) - c) (drop c (l ++ drop c p)))) no_place
    → put_mid c (length (l ++ drop c p) - c) (l ++ drop c p) f ≡ place_list (length p) l
written p l f c e h w =
    let d : drop c (l ++ drop c p) ≡ drop c p = drop_at l (drop c p) c e in
    let n : length (drop c p) ≡ length p - c = length-drop c p in
    let k : length (l ++ drop c p) ≡ length p = omega (arith, length-append l (drop c p), n, e, h) in
    let v : f ≡ replicate (length p - length l) no_place = rw (d, k) at w ∙ ap (λ (z : ℕ). replicate z no_place) (length-take-le (length p - c) (drop c p) (omega (arith, n)) ∙ ap (λ (z : ℕ). length p - z) (sym e)) in
    rw (take_at l (drop c p) c e, d, k, v, drop_of_length-le (drop c p) {i = length p - c} (omega (arith, n)), append-nil (replicate (length p - length l) no_place)) (sym (places-eq (length p) l))

-- the same where the list that is copied is m
copied : (p m l f : List ℕ) → l ≡ m → length m ≤ length p → f ≡ replicate (length (take (length (l ++ drop (length m) p) - length m) (drop (length m) (l ++ drop (length m) p)))) no_place
    → put_mid (length m) (length (l ++ drop (length m) p) - length m) (l ++ drop (length m) p) f ≡ place_list (length p) m
copied p m l f e h w = written p l f (length m) (ap length e) h w ∙ ap (place_list (length p)) e

pub returns : goal.returns
returns c = copied c.args.places.now c.args.list.now c.copy_from_slice.new.self c.fill.new.self c.copy_from_slice.ensures.after c.requires (c.fill.ensures.after (λ y h. h))
