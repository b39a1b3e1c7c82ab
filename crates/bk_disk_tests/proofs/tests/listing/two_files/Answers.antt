use Rattle.std.proofs.Common.{◌≡◌, ◌<◌, ◌^◌, [], ◌∷◌, length, ap, refl, lit<, arith}
use Rattle.bk_disk.proofs.Listings.{IsListing-none, IsListing-push}
use Rattle.bk_disk_tests.proofs.tests.listing.two_files.Goals as goal

-- the list of the two files
both : (c : goal.In_ok-push-2) → c.push-2.new.self.items ≡ (1, c.in_ok-from_slice.field-0) ∷ (0, c.in_ok-from_slice-2.field-0) ∷ []
both c = rw (c.in_ok-push-2.ensures.items, c.in_ok-push.ensures.items, c.new-files.ensures.items) refl

pub of-requires : goal.of-requires
of-requires c =
    let one = c.in_ok-from_slice.field-0 in
    let zero = c.in_ok-from_slice-2.field-0 in
    let one_short : length one.items < 2 ^ 32 = omega (arith, ap length c.in_ok-from_slice.ensures.items, c.requires.one) in
    let zero_short : length zero.items < 2 ^ 32 = omega (arith, ap length c.in_ok-from_slice-2.ensures.items, c.requires.zero) in
    rw (both c) (IsListing-push ((1, one) ∷ []) 0 zero (IsListing-push [] 1 one IsListing-none (lit< tt) one_short refl) (lit< tt) zero_short refl)
