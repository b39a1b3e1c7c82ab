use Rattle.std.proofs.Common.{◌≡◌, ◌∙◌, ◌⊎◌, ℕ, ◌<◌, ◌≤◌, List, Ok, option_map, length, take, refl, sym, ap, subst}
use Rattle.bk_record.specs.Files.{header_length}
use Rattle.bk_hint_disk.specs.Hints.{bytes_in}
use Rattle.bk_hint_disk.specs.Usable.{IsSealedAt}
use Rattle.bk_hint_folder.specs.Sealed.{NamesNoMap}
use Rattle.bk_hint_folder.proofs.Sealing.{no_hint, open_log, right_here, sealed_log}
use Rattle.bk_hint_folder.proofs.comparing.compare_hint.Goals as goal

pub returns-in-Ok-None-clause-state : goal.returns-in-Ok-None-clause-state
returns-in-Ok-None-clause-state g c = λ honest sure.
    let seen = c.in-Ok.ensures.view honest in
    let file = g.D.View.LogView.bytes c.in-Ok.found.view in
    let sealed = subst (λ (h : List ℕ). (header_length ≤ length h) × ((at : ℕ) × IsSealedAt h c.end.result at)) c.deref.ensures.value (c.if-is_sealed.ensures.sealed refl) in (
      (file, seen.0, sealed_log file c.in-Ok.found.header.items c.end.result seen.2 (c.end.ensures seen.1) sealed),
      no_hint c.in-Ok-None.field-0 _ (sym (c.in-Ok-None.ensures.transition sure).0) c.in-Ok-None.field-0-is,
    )

pub returns-in-Ok-None-2-clause-state : goal.returns-in-Ok-None-2-clause-state
returns-in-Ok-None-2-clause-state g c = λ honest sure.
    let seen = c.in-Ok.ensures.view honest in
    let file = g.D.View.LogView.bytes c.in-Ok.found.view in
    let left = subst (λ (h : List ℕ). (length h < header_length) ⊎ NamesNoMap (take header_length h) c.end.result) c.deref.ensures.value
    (c.if-is_sealed.ensures.unsealed refl) in (
      (file, seen.0, open_log file c.in-Ok.found.header.items c.end.result seen.2 (c.end.ensures seen.1) left),
      no_hint c.in-Ok-None.field-0 _ (sym (c.in-Ok-None.ensures.transition sure).0) c.in-Ok-None.field-0-is,
    )

pub returns-in-None-clause-state : goal.returns-in-None-clause-state
returns-in-None-clause-state g c = λ honest sure.
    let seen = c.in-Ok.ensures.view honest in
    let file = g.D.View.LogView.bytes c.in-Ok.found.view in
    let has = sym (c.in-Ok-Some.ensures.transition sure).0 ∙ ap (option_map bytes_in) c.in-Ok-Some.field-0-is in
    let good = c.in_ok-compared.ensures seen.1 (ap Ok c.in-None.is) in
    let both = right_here _ c.args.log file c.in-Ok.found.header.items c.in-Ok-Some.hint.items _ _ seen.2 has c.deref-2.ensures.value c.deref-3.ensures.value good in
    (file, seen.0, both)
