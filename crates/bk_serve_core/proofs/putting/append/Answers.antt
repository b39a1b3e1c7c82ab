use Rattle.std.proofs.Common.{◌≡◌, ℕ, ◌+◌, List, [], ◌∷◌, ◌++◌, length, ap, ◌∙◌, append_assoc, arith}
use Rattle.std.specs.Int.{w32, w64, to_be_bytes}
use Rattle.std.specs.List.{flat_map}
use Rattle.std.proofs.Transfers.{starts_with_trans}
use Rattle.std.proofs.lemmas.Grind.{common_steps}
use Rattle.bk_serve_core.specs.Fields.{body_of, parts}
use Rattle.bk_serve_core.proofs.putting.append.Goals as goal

-- what five calls appended, one after another
assembled : (o a b : List ℕ) (k : ℕ) (n t i1 i2 i3 i4 i5 : List ℕ) → i1 ≡ o ++ a → i2 ≡ i1 ++ b → i3 ≡ i2 ++ (k ∷ []) → i4 ≡ i3 ++ n
    → i5 ≡ i4 ++ t → i5 ≡ o ++ (a ++ (b ++ (k ∷ (n ++ t))))
assembled o a b k n t i1 i2 i3 i4 i5 p q r s u = rw (u, s, r, q, p) (simp append_assoc)

pub returns-in_err-put_numbers-clause-starts : goal.returns-in_err-put_numbers-clause-starts
returns-in_err-put_numbers-clause-starts c = starts_with_trans _ _ _ c.in_err-put_numbers.ensures.starts (grind (arith, common_steps))

pub returns-clause-ok : goal.returns-clause-ok
returns-clause-ok c =
    let o : List ℕ = c.args.out.now.items in
    let a : List ℕ = to_be_bytes w32 (8 + length (body_of (parts c.args.kind c.args.numbers.now c.args.tail.now))) in
    let b : List ℕ = to_be_bytes w64 c.args.id in
    let n : List ℕ = flat_map (to_be_bytes w64) c.args.numbers.now in
    let p : c.extend_from_slice.new.self.items ≡ o ++ a =
    c.in_ok-extend_from_slice.ensures.items ∙ ap (λ (x : List ℕ). o ++ x) (c.to_be_bytes.ensures ∙ ap (λ (s : ℕ). to_be_bytes w32 s) c.requires.whole) in
    let q : c.extend_from_slice-2.new.self.items ≡ c.extend_from_slice.new.self.items ++ b =
    c.in_ok-extend_from_slice-2.ensures.items ∙ ap (λ (x : List ℕ). c.extend_from_slice.new.self.items ++ x) c.to_be_bytes-2.ensures in
    assembled o a b c.args.kind n c.args.tail.now _ _ _ _ _ p q c.in_ok-push.ensures.items c.in_ok-put_numbers.ensures.ok c.in_ok-extend_from_slice-3.ensures.items
