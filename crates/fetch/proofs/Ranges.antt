-- Each limit of a request for rows: where one is passed the body is malformed, whatever the others say. Assumes nothing.
use mathlib.Core.Path.{◌≡◌, refl, sym, ap}
use mathlib.Core.Bool.{true, false}
use mathlib.Core.List.{List}
use Rattle.std.specs.Prelude.{Option, None, Some, Ok, Err}
use Prim.Native.Nat.{ℕ, ◌+◌, ◌≤◌, ◌<◌}
use native.Mathlib.Omega.{arith}
use borrow.Author.Tests.{le-leb, lt-leb, leb-true}
use lib.Dec.{leb}
use lib.ListN.{length}
use Rattle.lists.specs.Below.{both}
use Rattle.wire.specs.Word.{number_at}
use Rattle.lists.proofs.Below.{by_test, both_left, both_right}
use Rattle.lists.proofs.Options.{none≢some, some_is}
use Rattle.fetch.specs.Request.{least_size, reserved_at, size_at, base_at, backward_at, seek_at, seek_size_at, sized, in_range, seek_fits, asked, well_formed, request, Sound}
use Rattle.wire.specs.Header.{handle_at}
use Rattle.fetch.specs.declared.Request.{Request}
use Rattle.fetch.specs.Asking.{asking}
use Rattle.refusal.specs.declared.Refusal.{Refusal}
use Rattle.refusal.specs.declared.Refusal.TheVariants.{BodyMalformed}

-- a message, by what is judged of it
module _ (m : List ℕ) where
  pub short : length m < least_size → request m ≡ None
  unfolding request
  short h = rw (lt-leb least_size (length m) h)

  pub unfit : least_size ≤ length m → in_range (number_at 4 m reserved_at) (number_at 4 m size_at) (number_at 4 m base_at) (number_at 4 m backward_at) ≡ false → request m ≡ None
  unfolding request
  unfit h e = rw (le-leb least_size (length m) h, e)

  pub seek_unfit : least_size ≤ length m → in_range (number_at 4 m reserved_at) (number_at 4 m size_at) (number_at 4 m base_at) (number_at 4 m backward_at) ≡ true
      → seek_fits (length m) (number_at 4 m seek_at) (number_at 4 m seek_size_at) ≡ false → request m ≡ None
  unfolding request
  seek_unfit h e f = rw (le-leb least_size (length m) h, e, f)

  pub read_whole : least_size ≤ length m → in_range (number_at 4 m reserved_at) (number_at 4 m size_at) (number_at 4 m base_at) (number_at 4 m backward_at) ≡ true
      → seek_fits (length m) (number_at 4 m seek_at) (number_at 4 m seek_size_at) ≡ true → request m ≡ Some (asked (number_at 4 m reserved_at) m)
  unfolding request
  read_whole h e f = rw (le-leb least_size (length m) h, e, f)

-- a request that was read keeps the limits
pub request_sound : (m : List ℕ) (q : Request) → request m ≡ Some q → Sound q
unfolding request
request_sound m q e =
    by_test (well_formed m)
    (λ w. rw (← (some_is (rw w at e))) (judged w))
    (λ w. absurd (none≢some (rw w at e)))
  where
    judged : well_formed m ≡ true → Sound (asked (number_at 4 m reserved_at) m)
    judged w =
        let r = both_left (in_range (number_at 4 m reserved_at) (number_at 4 m size_at) (number_at 4 m base_at) (number_at 4 m backward_at)) _ (both_right (leb least_size (length m)) _ w) in
        let bounds = both_left (both (leb 20 (number_at 4 m reserved_at)) (leb (number_at 4 m reserved_at) 64)) _ r in
        let others = both_right (both (leb 20 (number_at 4 m reserved_at)) (leb (number_at 4 m reserved_at) 64)) _ r in
        let size_in = both_left (both (leb 512 (number_at 4 m size_at)) (leb (number_at 4 m size_at) 16384)) _ (both_left (sized (number_at 4 m size_at)) _ others) in
        let reach-in = both_left (leb (number_at 4 m base_at + number_at 4 m size_at) 4294967295) _ (both_right (sized (number_at 4 m size_at)) _ others) in
        record {
          from_least = omega (arith, leb-true 20 (number_at 4 m reserved_at) (both_left (leb 20 (number_at 4 m reserved_at)) _ bounds));
          from_most = omega (arith, leb-true (number_at 4 m reserved_at) 64 (both_right (leb 20 (number_at 4 m reserved_at)) _ bounds));
          least = leb-true 512 (number_at 4 m size_at) (both_left (leb 512 (number_at 4 m size_at)) _ size_in);
          most = leb-true (number_at 4 m size_at) 16384 (both_right (leb 512 (number_at 4 m size_at)) _ size_in);
          reach = leb-true (number_at 4 m base_at + number_at 4 m size_at) 4294967295 reach-in;
        }

pub request_handle : (m : List ℕ) (q : Request) → request m ≡ Some q → q.handle ≡ number_at 4 m handle_at
unfolding request
request_handle m q e =
    by_test (well_formed m)
    (λ w. sym (ap (λ (x : Request). x.handle) (some_is (rw w at e))))
    (λ w. absurd (none≢some (rw w at e)))

-- what the reader's answer says of the body
pub asked_is : (o : Option Request) {q : Request} → asking o ≡ Ok q → o ≡ Some q
asked_is None e = grind arith
asked_is (Some q) e = ap Some (cc e)

pub malformed_is : (o : Option Request) {r : Refusal} → asking o ≡ Err r → (o ≡ None) × (r ≡ BodyMalformed)
malformed_is None e = (refl, sym (cc e))
malformed_is (Some q) e = grind arith
