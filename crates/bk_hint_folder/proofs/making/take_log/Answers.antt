use Rattle.std.proofs.Common.{◌≡◌, ◌∙◌, ◌⊎◌, ℕ, ◌<◌, ◌≤◌, List, Ok, Option, Some, IfSome, Vec, length, take, refl, sym, ap, subst}
use Rattle.std.specs.Global.{Global}
use Rattle.std.specs.FinMap as map
use Rattle.bk_record.specs.Files.{header_length}
use Rattle.bk_hint.specs.declared.listed.Listed.{Listed}
use Rattle.bk_hint_disk.specs.Truth.{IsTrueHint}
use Rattle.bk_hint_disk.specs.Usable.{IsSealedAt, IsUsable}
use Rattle.bk_hint_folder.specs.Sealed.{NamesNoMap}
use Rattle.bk_hint_folder.proofs.Leaving.{put_leaves, puts_here}
use Rattle.bk_hint_folder.proofs.Sealing.{open_log, sealed_log, usable_here}
use Rattle.bk_hint_folder.proofs.making.take_log.Goals as goal

pub returns-then-not-is_sealed-clause-hints : goal.returns-then-not-is_sealed-clause-hints
returns-then-not-is_sealed-clause-hints g c = λ honest sure.
    let seen = c.in-Ok.ensures.view honest in
    let file = g.D.View.LogView.bytes c.in-Ok.found.view in
    let left = subst (λ (h : List ℕ). (length h < header_length) ⊎ NamesNoMap (take header_length h) c.end.result) c.deref.ensures.value
    (c.if-not-is_sealed.ensures.unsealed refl) in
    ((file, seen.0, open_log file c.in-Ok.found.header.items c.end.result seen.2 (c.end.ensures seen.1) left), refl)

pub returns-in-Ok-true-clause-hints : goal.returns-in-Ok-true-clause-hints
returns-in-Ok-true-clause-hints g c = λ honest sure.
    let seen = c.in-Ok.ensures.view honest in
    let file = g.D.View.LogView.bytes c.in-Ok.found.view in
    let front = subst (λ (h : List ℕ). (header_length ≤ length h) × ((at : ℕ) × IsSealedAt h c.end.result at)) c.deref.ensures.value
    (c.if-not-is_sealed.ensures.sealed refl) in
    let found = subst (λ (h : List ℕ). (hint : List ℕ) × ((entries : List Listed)
    × ((map.get (g.H.Hints.hints c.args.hints.now) c.args.log ≡ Some hint) × IsUsable h file hint c.args.log entries))) c.deref-2.ensures.value
    (c.has_hint.ensures.usable sure seen.1 (c.in-Ok-true.is ∙ ap Ok c.in-Ok-true.field-0-test)) in
    let sealed = sealed_log file c.in-Ok.found.header.items c.end.result seen.2 (c.end.ensures seen.1) front in
    ((file, seen.0, (sealed, usable_here _ c.args.log file c.in-Ok.found.header.items seen.2 found)), c.has_hint.ensures.same sure)

pub returns-in-Ok-Some-clause-hints : goal.returns-in-Ok-Some-clause-hints
returns-in-Ok-Some-clause-hints g c = λ honest sure.
    let seen = c.in-Ok.ensures.view honest in
    let file = g.D.View.LogView.bytes c.in-Ok.found.view in
    let front = subst (λ (h : List ℕ). (header_length ≤ length h) × ((at : ℕ) × IsSealedAt h c.end.result at)) c.deref.ensures.value
    (c.if-not-is_sealed.ensures.sealed refl) in
    let sealed = sealed_log file c.in-Ok.found.header.items c.end.result seen.2 (c.end.ensures seen.1) front in
    let fact = subst (λ (o : Option (Vec ℕ Global)). IfSome o (λ h. IsTrueHint file h.items)) c.in-Ok-Some.field-0-is (c.in-Ok-Some.ensures.records seen.1) in
    let puts = puts_here _ _ _ _ _ c.args.log _ _ _ _ (c.log_of.ensures.files honest) (c.has_hint.ensures.same sure) c.deref-in-Ok-Some.ensures.value
    (c.put_hint.ensures.hints (c.log_of.ensures.honest ∙ honest) (c.has_hint.ensures.honest ∙ sure)) in
    put_leaves _ _ _ c.args.log file _ _ _ seen.0 sealed fact puts

pub returns-in-Ok-None-clause-hints : goal.returns-in-Ok-None-clause-hints
returns-in-Ok-None-clause-hints g c = λ honest sure.
    let seen = c.in-Ok.ensures.view honest in
    let file = g.D.View.LogView.bytes c.in-Ok.found.view in
    let front = subst (λ (h : List ℕ). (header_length ≤ length h) × ((at : ℕ) × IsSealedAt h c.end.result at)) c.deref.ensures.value
    (c.if-not-is_sealed.ensures.sealed refl) in
    ((file, seen.0, sealed_log file c.in-Ok.found.header.items c.end.result seen.2 (c.end.ensures seen.1) front), c.has_hint.ensures.same sure)
