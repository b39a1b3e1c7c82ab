-- Header and state of a log.
use Rattle.std.proofs.Common.{◌≡◌, ◌∙◌, ◌⊎◌, inl, inr, ℕ, ◌<◌, ◌≤◌, List, [], length, take, Option, Some, None, IsNone, option_map, Vec, refl, sym, ap, subst, arith}
use Rattle.std.specs.Global.{Global}
use Rattle.std.specs.FinMap as map
use Rattle.std.proofs.Math.Decide.{dec_le}
use Rattle.std.proofs.lemmas.List.{length-take-le, take_all, take-take}
use Rattle.bk_record.specs.Files.{Files, header_length}
use Rattle.bk_disk.specs.Disk.{view_end}
use Rattle.bk_hint.specs.declared.listed.Listed.{Listed}
use Rattle.bk_hint_disk.specs.Hints.{bytes_in}
use Rattle.bk_hint_disk.specs.Truth.{IsTrueHint}
use Rattle.bk_hint_disk.specs.Usable.{IsSealedAt, IsUsable}
use Rattle.bk_hint_folder.specs.Sealed.{IsFrontOf, IsOpenLog, IsSealedLog, NamesNoMap}
use Rattle.bk_hint_folder.specs.Hinting.{HasUsable}

pub front_long : (file header : List ℕ) → IsFrontOf file header → header_length ≤ length header → (header_length ≤ length file) × (header ≡ take header_length file)
front_long file header front long = elim (dec_le header_length (length file)) [
  | yes whole ↦ (whole, front.long whole)
  | no short ↦ absurd (omega (arith, long, ap length (front.short (omega (arith, short)))))
]

pub sealed_log : (file header : List ℕ) (end : ℕ) → IsFrontOf file header → end ≡ view_end file
    → (header_length ≤ length header) × ((at : ℕ) × IsSealedAt header end at) → IsSealedLog file
sealed_log file header end front ends sealed =
    let long = front_long file header front sealed.0 in (
      long.0,
      (sealed.1.0, subst (λ (h : List ℕ). IsSealedAt h (view_end file) sealed.1.0) long.1 (subst (λ (n : ℕ). IsSealedAt header n sealed.1.0) ends sealed.1.1)),
    )

pub open_log : (file header : List ℕ) (end : ℕ) → IsFrontOf file header → end ≡ view_end file
    → (length header < header_length) ⊎ NamesNoMap (take header_length header) end → IsOpenLog file
open_log file header end front ends left = elim (dec_le header_length (length file)) [
  | no short ↦ inl (omega (arith, short))
  | yes whole ↦
      let is : header ≡ take header_length file = front.long whole in
      elim left [
        | inl less ↦ absurd (omega (arith, less, ap length is, length-take-le header_length file whole))
        | inr none ↦
            let same : take header_length header ≡ take header_length file = ap (take header_length) is ∙ take-take header_length header_length file (omega arith) in
            inr (subst (λ (h : List ℕ). NamesNoMap h (view_end file)) same (subst (λ (n : ℕ). NamesNoMap (take header_length header) n) ends none))
      ]
]

-- a header that has a hint which may be used is that of the file
usable_front : (file header hint : List ℕ) (log : ℕ) (entries : List Listed) → IsFrontOf file header → IsUsable header file hint log entries → header ≡ take header_length file
usable_front file header hint log entries front usable = elim (dec_le header_length (length file)) [
  | yes whole ↦ front.long whole
  | no short ↦
      let none : header ≡ [] = front.short (omega (arith, short)) in
      let head = usable.sealed.is in
      let same : take 1024 header ≡ header = take_all 1024 header (omega (arith, ap length none)) in
      let no = ap length (sym same ∙ head.bytes_are) in
      absurd (omega (arith, ap length none, no))
]

-- a hint that may be used for the file by its header
pub usable_here : (hints : Files) (log : ℕ) (file header : List ℕ) → IsFrontOf file header
    → ((hint : List ℕ) × ((entries : List Listed) × ((map.get hints log ≡ Some hint) × IsUsable header file hint log entries))) → HasUsable hints log file
usable_here hints log file header front found =
    let is = usable_front file header found.0 log found.1.0 front found.1.1.1 in
    (found.0, (found.1.0, (found.1.1.0, subst (λ (h : List ℕ). IsUsable h file found.0 log found.1.0) is found.1.1.1)))

-- a hint that was compared with the log
pub right_here : (hints : Files) (log : ℕ) (file header hint head seen : List ℕ) → IsFrontOf file header → map.get hints log ≡ Some hint → head ≡ header → seen ≡ hint
    → (IsTrueHint file seen × ((entries : List Listed) × IsUsable head file seen log entries))
    → HasUsable hints log file × ((h : List ℕ) × (map.get hints log ≡ Some h) × IsTrueHint file h)
right_here hints log file header hint head seen front has is same good =
    let entries = good.1.0 in
    let usable = subst (λ (s : List ℕ). IsUsable header file s log entries) same (subst (λ (h : List ℕ). IsUsable h file seen log entries) is good.1.1) in (
      usable_here hints log file header front (hint, (entries, (has, usable))),
      (hint, has, subst (IsTrueHint file) same good.0),
    )

-- a store that returned no hint has none
pub no_hint : (found : Option (Vec ℕ Global)) (hint : Option (List ℕ)) → hint ≡ option_map bytes_in found → found ≡ None → IsNone hint
no_hint found hint is none = subst (λ (o : Option (List ℕ)). IsNone o) (sym (is ∙ ap (option_map bytes_in) none)) refl
