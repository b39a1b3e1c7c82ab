-- The first bytes of a damaged file are a cut of the file.
use Rattle.std.proofs.Common.{◌≡◌, ◌⊎◌, inl, inr, ℕ, ◌+◌, ◌-◌, ◌≤◌, List, ◌++◌, length, take, drop}
use Rattle.std.proofs.Common.{sym, ap, ◌∙◌, subst, arith, length-append, length-drop, length-take}
use Rattle.std.proofs.Math.Decide.{dec_le}
use Rattle.std.proofs.lemmas.List.{drop-take, take-append-drop, take-append-le, length-take-le, take_all, take-take, nil_from_length, drop-append-le}
use Rattle.bk_record.specs.Files.{header_length}
use Rattle.bk_crash.specs.Damage.{IsDamaged}
use Rattle.bk_store.specs.Crash.{IsCut}

-- Equal bytes after position 20 of a prefix.
drop_part : (n m : ℕ) (a b : List ℕ) → drop 20 a ≡ drop 20 (take n b) → m ≤ n → drop 20 (take m a) ≡ drop 20 (take m b)
drop_part n m a b same order = elim (dec_le 20 m) [
  | no few ↦ nil_from_length (drop 20 (take m a)) (omega (arith, few, length-drop 20 (take m a), length-take m a))
      ∙ sym (nil_from_length (drop 20 (take m b)) (omega (arith, few, length-drop 20 (take m b), length-take m b)))
  | yes enough ↦
      let k = m - 20 in
      let j = n - 20 in
      let front : (l : List ℕ) → drop 20 (take m l) ≡ take k (drop 20 l) = λ l.
      let sum : m ≡ 20 + k = omega (arith, enough) in ap (λ i. drop 20 (take i l)) sum ∙ drop-take 20 k l in
      let all : drop 20 (take n b) ≡ take j (drop 20 b) =
      let sum : n ≡ 20 + j = omega (arith, enough, order) in ap (λ i. drop 20 (take i b)) sum ∙ drop-take 20 j b in
      front a ∙ ap (take k) (same ∙ all) ∙ take-take k j (drop 20 b) (omega (arith, order)) ∙ sym (front b)
]

-- Equal first eight bytes of a prefix.
take_part : (n m : ℕ) (a b : List ℕ) → take 8 a ≡ take 8 (take n b) → m ≤ n → take 8 (take m a) ≡ take 8 (take m b)
take_part n m a b same order = elim (dec_le 8 m) [
  | yes enough ↦ take-take 8 m a enough ∙ same ∙ take-take 8 n b (omega (arith, enough, order)) ∙ sym (take-take 8 m b enough)
  | no few ↦
      let less : m ≤ 8 = omega (arith, few) in
      let short : (l : List ℕ) → take 8 (take m l) ≡ take m l = λ l. take_all 8 (take m l) (omega (arith, less, length-take m l)) in
      short a ∙ sym (take-take m 8 a less) ∙ ap (take m) same ∙ take-take m 8 (take n b) less ∙ take-take m n b order ∙ sym (short b)
]

-- A prefix of a cut is a cut.
pub cut_take : (m : ℕ) (file left : List ℕ) → IsCut file left → IsCut file (take m left)
cut_take m file left cut = elim (dec_le (length left) m) [
  | yes all ↦ subst (IsCut file) (sym (take_all m left all)) cut
  | no part ↦
      let order : m ≤ length left = omega (arith, part) in
      let size : length (take m left) ≡ m = length-take-le m left order in
      record {
        within = omega (arith, size, order, cut.within);
        front = take_part (length left) m left file cut.front order ∙ ap (λ n. take 8 (take n file)) (sym size);
        behind = drop_part (length left) m left file cut.behind order ∙ ap (λ n. drop 20 (take n file)) (sym size);
      }
]

-- A cut of a prefix of a file is a cut of the file.
cut_of_front : (n : ℕ) (file left : List ℕ) → IsCut (take n file) left → IsCut file left
cut_of_front n file left cut =
    let order : length left ≤ n = omega (arith, cut.within, length-take n file) in
    let same : take (length left) (take n file) ≡ take (length left) file = take-take (length left) n file order in
    record {
      within = omega (arith, cut.within, length-take n file);
      front = cut.front ∙ ap (take 8) same;
      behind = cut.behind ∙ ap (drop 20) same;
    }

-- The first bytes, in two parts.
in_two : (n k : ℕ) (l : List ℕ) → n ≤ length l → take (n + k) l ≡ take n l ++ take k (drop n l)
in_two n k l order =
    sym (take-append-drop n (take (n + k) l)) ∙ (λ i. take-take n (n + k) l (omega arith) i ++ drop-take n k l i)

module _ (kept file left : List ℕ) (damaged : IsDamaged kept file left) (mark : ℕ) (covers : mark ≤ header_length + length (drop header_length kept)) where
  -- A position at or after the end of the header.
  behind_header : header_length ≤ mark → (mark ≡ header_length) ⊎ (header_length + 1 ≤ mark) → IsCut file (take mark left)
  behind_header headed (inl it) =
      subst (λ n. IsCut file (take n left)) (sym it) (cut_of_front header_length file (take header_length left) damaged.headed)
  behind_header headed (inr more) =
      let k = mark - header_length in
      let body = drop header_length kept in
      let sum : mark ≡ header_length + k = omega (arith, headed) in
      let long-file : mark ≤ length file = omega (arith, more, covers, ap length damaged.begins.is, length-append body damaged.begins.behind, length-drop header_length file) in
      let long-left : mark ≤ length left = omega (arith, more, covers, ap length damaged.stands.is, length-append body damaged.stands.behind, length-drop header_length left) in
      let size : length (take mark left) ≡ mark = length-take-le mark left long-left in
      let head : length (take header_length left) ≡ header_length = length-take-le header_length left (omega (arith, headed, long-left)) in
      let head-file : length (take header_length file) ≡ header_length = length-take-le header_length file (omega (arith, headed, long-file)) in
      let whole : take (length (take header_length left)) (take header_length file) ≡ take header_length file =
      take_all (length (take header_length left)) (take header_length file) (omega (arith, head, head-file)) in
      let front : take 8 left ≡ take 8 file =
      sym (take-take 8 header_length left (omega arith)) ∙ damaged.headed.front ∙ ap (take 8) whole ∙ take-take 8 header_length file (omega arith) in
      let bodies : take k (drop header_length left) ≡ take k (drop header_length file) =
      ap (take k) damaged.stands.is ∙ take-append-le k body damaged.stands.behind (omega (arith, covers, headed))
      ∙ sym (ap (take k) damaged.begins.is ∙ take-append-le k body damaged.begins.behind (omega (arith, covers, headed))) in
      let cut_in : (l : List ℕ) → mark ≤ length l → drop 20 (take mark l) ≡ drop 20 (take header_length l) ++ take k (drop header_length l) = λ l long.
      ap (λ n. drop 20 (take n l)) sum ∙ ap (drop 20) (in_two header_length k l (omega (arith, headed, long)))
      ∙ drop-append-le 20 (take header_length l) (take k (drop header_length l)) (omega (arith, length-take-le header_length l (omega (arith, headed, long)))) in
      record {
        within = omega (arith, size, long-file);
        front = take-take 8 mark left (omega (arith, headed)) ∙ front ∙ sym (take-take 8 mark file (omega (arith, headed)))
            ∙ ap (λ n. take 8 (take n file)) (sym size);
        behind = cut_in left long-left
            ∙ (λ i. (damaged.headed.behind ∙ ap (drop 20) whole) i ++ bodies i)
            ∙ sym (cut_in file long-file) ∙ ap (λ n. drop 20 (take n file)) (sym size);
      }

  pub front_cut : IsCut file (take mark left)
  front_cut = elim (dec_le mark header_length) [
    | yes before ↦ cut_of_front header_length file (take mark left)
        (subst (IsCut (take header_length file)) (take-take mark header_length left before) (cut_take mark (take header_length file) (take header_length left) damaged.headed))
    | no behind ↦ behind_header (omega (arith, behind)) (inr (omega (arith, behind)))
  ]
