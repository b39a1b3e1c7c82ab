-- Options with a function applied to the value.
use Rattle.std.proofs.Common.{◌≡◌, false, Option, Some, None, option_map, is_some, refl, sym}
use Rattle.std.specs.Option.{option_copied, IfSome}
use denote.Ref.{Bor}

-- a value read through a reference
pub option_map-now : {A B : Type 0} (f : A → B) (r : Option (Bor A)) → option_map (λ x. f x.now) r ≡ option_map f (option_copied r)
option_map-now f None = refl
option_map-now f (Some x) = refl

-- a property of the value after the function
pub IfSome-from_map : {A B : Type 0} (f : A → B) (P : B → Type 0) (r : Option A) (o : Option B) → option_map f r ≡ o → ((y : B) → o ≡ Some y → P y)
    → IfSome r (λ x. P (f x))
IfSome-from_map f P None o is holds = tt
IfSome-from_map f P (Some x) o is holds = holds (f x) (sym is)

pub is_some-option_map : {A B : Type 0} (f : A → B) (o : Option A) → is_some (option_map f o) ≡ is_some o
is_some-option_map f None = refl
is_some-option_map f (Some x) = refl

pub none_is : {A : Type 0} (o : Option A) → is_some o ≡ false → o ≡ None
none_is None is = refl
none_is (Some x) is = cc
