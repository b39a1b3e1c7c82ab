use Rattle.std.proofs.Common.{◌≡◌, ℕ, List, [], ◌∷◌, ◌++◌, append_assoc}
use Rattle.bk_manifest.specs.Fact.{fact_bytes}
use Rattle.bk_manifest.proofs.writing.put_attribute.Goals as goal

parts_put : (kind : ℕ) (old one two three four new a b d bytes a' b' d' : List ℕ) → one ≡ old ++ kind ∷ [] → two ≡ one ++ a → three ≡ two ++ b → four ≡ three ++ d
    → new ≡ four ++ bytes → a ≡ a' → b ≡ b' → d ≡ d' → new ≡ old ++ kind ∷ (a' ++ (b' ++ (d' ++ bytes)))
parts_put kind old one two three four new a b d bytes a' b' d' h0 h1 h2 h3 h4 p q r = rw (h4, h3, h2, h1, h0, p, q, r) (simp append_assoc)

pub returns-clause-ok : goal.returns-clause-ok
unfolding fact_bytes
returns-clause-ok c =
    parts_put 6 _ _ _ _ _ _ _ _ _ _ _ _ _ c.in_ok-push.ensures.items c.in_ok-extend_from_slice.ensures.items c.in_ok-extend_from_slice-2.ensures.items
    c.in_ok-extend_from_slice-3.ensures.items c.in_ok-extend_from_slice-4.ensures.items c.to_be_bytes.ensures c.to_be_bytes-2.ensures c.to_be_bytes-3.ensures
