-- Hints as bytes: they are read in one way, and have no fault.
use Rattle.std.proofs.Common.{◌≡◌, ℕ, suc, ◌^◌, ◌<◌, List, [], ◌∷◌, ◌++◌, length, get_or, sym, ap, subst, ◌∙◌, append_assoc}
use Rattle.std.specs.List.{flat_map, AllByRecursion}
use Rattle.bk_crc.specs.Checksum.{IsChecksum}
use Rattle.bk_crc.specs.declared.polynomial.Polynomial.TheVariants.{Castagnoli}
use Rattle.bk_hint.specs.declared.facts.LogFacts.{LogFacts}
use Rattle.bk_hint.specs.declared.listed.Listed.{Listed}
use Rattle.bk_hint.specs.declared.head.Head.{Head}
use Rattle.bk_hint.specs.Entries.{origin, entries_of, IsSound}
use Rattle.bk_hint.specs.Hint.{front_of, head_bytes, step_bytes, FactsFit, StepFits, IsHint}
use Rattle.bk_hint.proofs.Counts.{heads_fit, sound_few_heads, sound_few_steps}

pub steps_fit : (steps : List ℕ) → ((k : ℕ) → get_or steps k 0 < 2 ^ 32) → AllByRecursion StepFits steps
steps_fit [] each = tt
steps_fit (step ∷ steps) each = (each 0, steps_fit steps (λ k. each (suc k)))

joined : (none front heads steps sum a b d e : List ℕ) → none ≡ [] → a ≡ none ++ front → b ≡ a ++ heads → d ≡ b ++ steps → e ≡ d ++ sum
    → (d ≡ front ++ (heads ++ steps)) × (e ≡ (front ++ (heads ++ steps)) ++ sum)
joined none front heads steps sum a b d e none_is a_is b_is d_is e_is =
    let first : a ≡ front = a_is ∙ ap (λ (x : List ℕ). x ++ front) none_is in
    let second : b ≡ front ++ heads = b_is ∙ ap (λ (x : List ℕ). x ++ heads) first in
    let third : d ≡ front ++ (heads ++ steps) = d_is ∙ ap (λ (x : List ℕ). x ++ steps) second ∙ append_assoc front heads steps in
    (third, e_is ∙ ap (λ (x : List ℕ). x ++ sum) third)

-- what `encode` wrote is a hint
pub encoded : (facts : LogFacts) (heads : List Head) (steps : List ℕ) (entries : List Listed) (sum : ℕ) (none a b d e message : List ℕ)
    → none ≡ [] → a ≡ none ++ front_of facts (length heads) (length steps) → b ≡ a ++ flat_map head_bytes heads → d ≡ b ++ flat_map step_bytes steps
    → e ≡ d ++ step_bytes sum → message ≡ d → IsChecksum Castagnoli message sum → FactsFit facts → AllByRecursion StepFits steps → sum < 2 ^ 32
    → IsSound heads steps → entries_of origin heads steps ≡ entries → IsHint e facts entries
encoded facts heads steps entries sum none a b d e message none_is a_is b_is d_is e_is message_is checked facts_fit fit sum_fits sound list =
    let parts = joined none (front_of facts (length heads) (length steps)) (flat_map head_bytes heads) (flat_map step_bytes steps) (step_bytes sum) a b d e
    none_is a_is b_is d_is e_is in
    record {
      heads = heads;
      steps = steps;
      sum = sum;
      spells = record {
        bytes_are = parts.1;
        facts_fit = facts_fit;
        heads_fit = heads_fit origin heads steps sound.heads_fit sound.in_order;
        steps_fit = fit;
        few_heads = sound_few_heads heads steps sound;
        few_steps = sound_few_steps heads steps sound;
        sum_fits = sum_fits;
      };
      checked = subst (λ (m : List ℕ). IsChecksum Castagnoli m sum) (message_is ∙ parts.0) checked;
      sound = sound;
      entries_are = sym list;
    }
