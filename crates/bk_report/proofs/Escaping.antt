-- A text that is written byte by byte is escaped, and decodes to the text.
use Rattle.std.proofs.Common.{◌≡◌, ℕ, List, [], ◌∷◌, ◌++◌, refl, ap, ◌∙◌, sym, subst, inl, inr, ne_eqb}
use Rattle.std.proofs.lemmas.Bool.{cases_eq}
use Rattle.std.specs.List.{flat_map}
use Rattle.bk_report.specs.Html.{IsPlain, IsEscaped, decoded, entity_of}
use Rattle.bk_report.specs.Html.IsEscaped.{none, plain, entity}
use Rattle.bk_report.specs.Html.IsEntity.{amp, lt, gt, quot, apos}

-- a byte has a meaning in HTML or has none
data Byte : ℕ → Type 0 where
  is_amp : Byte 38
  is_lt : Byte 60
  is_gt : Byte 62
  is_quot : Byte 34
  is_apos : Byte 39
  is_plain : {b : ℕ} → IsPlain b → Byte b

byte : (b : ℕ) → Byte b
byte b =
    elim (cases_eq b 38) [
      | inl is ↦ subst Byte (sym is) is_amp
      | inr not_amp ↦
          elim (cases_eq b 60) [
            | inl is ↦ subst Byte (sym is) is_lt
            | inr not_lt ↦
                elim (cases_eq b 62) [
                  | inl is ↦ subst Byte (sym is) is_gt
                  | inr not_gt ↦
                      elim (cases_eq b 34) [
                        | inl is ↦ subst Byte (sym is) is_quot
                        | inr not_quot ↦
                            elim (cases_eq b 39) [
                              | inl is ↦ subst Byte (sym is) is_apos
                              | inr not_apos ↦
                                  is_plain (record { not_amp = not_amp; not_lt = not_lt; not_gt = not_gt; not_quot = not_quot; not_apos = not_apos })
                            ]
                      ]
                ]
          ]
    ]

-- a plain byte is written as it is
entity_of-plain : (b : ℕ) → IsPlain b → entity_of b ≡ b ∷ []
entity_of-plain b p =
    rw (ne_eqb b 38 p.not_amp, ne_eqb b 60 p.not_lt, ne_eqb b 62 p.not_gt, ne_eqb b 34 p.not_quot, ne_eqb b 39 p.not_apos) refl

escaped_byte : {b : ℕ} → Byte b → (html text : List ℕ) → IsEscaped html text → IsEscaped (entity_of b ++ html) (b ∷ text)
escaped_byte is_amp html text h = entity amp h
escaped_byte is_lt html text h = entity lt h
escaped_byte is_gt html text h = entity gt h
escaped_byte is_quot html text h = entity quot h
escaped_byte is_apos html text h = entity apos h
escaped_byte (is_plain {b} p) html text h = subst (λ (e : List ℕ). IsEscaped (e ++ html) (b ∷ text)) (sym (entity_of-plain b p)) (plain p h)

decoded_plain : (b : ℕ) → IsPlain b → (html : List ℕ) → decoded (b ∷ html) ≡ b ∷ decoded html
decoded_plain b p html = rw (ne_eqb b 38 p.not_amp) refl

decoded_byte : {b : ℕ} → Byte b → (html : List ℕ) → decoded (entity_of b ++ html) ≡ b ∷ decoded html
decoded_byte is_amp html = refl
decoded_byte is_lt html = refl
decoded_byte is_gt html = refl
decoded_byte is_quot html = refl
decoded_byte is_apos html = refl
decoded_byte (is_plain {b} p) html = ap (λ (e : List ℕ). decoded (e ++ html)) (entity_of-plain b p) ∙ decoded_plain b p html

pub escaped_of : (text : List ℕ) → IsEscaped (flat_map entity_of text) text
escaped_of [] = none
escaped_of (b ∷ bs) = escaped_byte (byte b) (flat_map entity_of bs) bs (escaped_of bs)

pub decoded-escaped : (text : List ℕ) → decoded (flat_map entity_of text) ≡ text
decoded-escaped [] = refl
decoded-escaped (b ∷ bs) = decoded_byte (byte b) (flat_map entity_of bs) ∙ ap (λ (l : List ℕ). b ∷ l) (decoded-escaped bs)
