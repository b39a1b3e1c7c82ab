-- Looking for a whole batch, place by place.
use Rattle.std.proofs.Common.{◌≡◌, ℕ, suc, ◌+◌, ◌-◌, ◌<◌, ◌≤◌, Bool, true, false, List, length, take, drop, refl, sym, ap, ◌∙◌, arith}
use Rattle.std.proofs.lemmas.List.{take_rest}
use Rattle.bk_manifest.specs.declared.piece.Piece.{Piece}
use Rattle.bk_manifest.specs.Batch.{piece_at, is_whole, any_whole}

-- what was read of a slice from a place on is what stands there
pub read_there : (generation at : ℕ) (file : List ℕ) (piece : Piece)
    → piece ≡ piece_at generation at (take (length file - at) (drop at file)) → piece ≡ piece_at generation at (drop at file)
read_there generation at file piece is = is ∙ ap (piece_at generation at) (take_rest file at)

pub found_here : (generation at : ℕ) (file : List ℕ) (piece : Piece) (r total : Bool) → at < length file
    → piece ≡ piece_at generation at (take (length file - at) (drop at file)) → r ≡ is_whole piece → r ≡ true
    → any_whole (length file - at) generation file at ≡ total → true ≡ total
unfolding any_whole
found_here generation at file piece r total low is whole here so_far =
    let more : length file - at ≡ suc (length file - (at + 1)) = omega arith in
    let stands : is_whole (piece_at generation at (drop at file)) ≡ true = ap is_whole (sym (read_there generation at file piece is)) ∙ sym whole ∙ here in
    let one : any_whole (length file - at) generation file at ≡ true = rw (more, stands) refl in
    sym one ∙ so_far

pub not_here : (generation at : ℕ) (file : List ℕ) (piece : Piece) (r total : Bool) → at < length file
    → piece ≡ piece_at generation at (take (length file - at) (drop at file)) → r ≡ is_whole piece → r ≡ false
    → any_whole (length file - at) generation file at ≡ total → any_whole (length file - (at + 1)) generation file (at + 1) ≡ total
unfolding any_whole
not_here generation at file piece r total low is whole here so_far =
    let more : length file - at ≡ suc (length file - (at + 1)) = omega arith in
    let stands : is_whole (piece_at generation at (drop at file)) ≡ false = ap is_whole (sym (read_there generation at file piece is)) ∙ sym whole ∙ here in
    let one : any_whole (length file - at) generation file at ≡ any_whole (length file - (at + 1)) generation file (at + 1) = rw (more, stands) refl in
    sym one ∙ so_far

pub none_left : (generation at : ℕ) (file : List ℕ) (total : Bool) → length file ≤ at
    → any_whole (length file - at) generation file at ≡ total → false ≡ total
unfolding any_whole
none_left generation at file total low so_far =
    let none : length file - at ≡ 0 = omega arith in
    let one : any_whole (length file - at) generation file at ≡ false = rw none refl in
    sym one ∙ so_far
