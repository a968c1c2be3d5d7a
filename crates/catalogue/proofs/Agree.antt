-- The definitions by place say what the plain parser says: of a number, a text, a row, rows, and the whole catalogue.
-- Assumes nothing.
use mathlib.Core.Path.{◌≡◌, refl, sym, ap, ◌∙◌}
use mathlib.Core.Bool.{Bool, true, false}
use mathlib.Core.List.{List, [], ◌∷◌, map}
use Rattle.std.specs.Prelude.{Option, None, Some}
use Prim.Native.Nat.{ℕ, zero, suc, ◌-◌, ◌*◌, ◌≤◌, ◌<◌}
use native.Mathlib.Nat.{add-zero, not-suc-le-zero, le_of_suc-le-suc}
use native.Mathlib.Omega.{arith}
use borrow.Author.Tests.{eqb-true, eqb-false}
use lib.Dec.{leb, eqb, leb-zero, eqb-suc-zero}
use lib.ListN.{length, get_or, take, drop, length-drop, drop_of_length-le}
use lib.Seq.{drop-drop, drop-cons}
use Rattle.lists.specs.Below.{pick, both, every_below}
use Rattle.wire.specs.Word.{halves}
use Rattle.lists.proofs.Below.{by_test, true≢false}
use Rattle.lists.proofs.Options.{none≢some, some_is}
use Rattle.catalogue.specs.Groups.{groups, within, number, split_after}
use Rattle.catalogue.specs.NumberPlaces.{placed, reading_at}
use Rattle.catalogue.specs.Limits.{rows_most, key_most, number_most, size_most, bytes_most}
use Rattle.lists.specs.Options.{and_then}
use Rattle.catalogue.specs.Plain.{Row, none_zero, text_after, text, row, rows, whole, catalogue, refusal_of}
use Rattle.catalogue.specs.CataloguePlaces.{with_read, text_after_at, text_at, row_at, rows_end, places_from, counted, checked, row_count, places, text_of, row_of, row_seen}
use Rattle.catalogue.specs.declared.Text.{Text}
use Rattle.catalogue.specs.declared.Fields.{Fields}
use Rattle.catalogue.proofs.Inside.{reading_read}
use Rattle.catalogue.proofs.RowLaws.{row_inside}

-- an answer by place as the plain parser would give it: the value, and the bytes after it
abbrev pub seen : {A B : Type 0} → (A → B) → List ℕ → Option (A × ℕ) → Option (B × List ℕ)
seen to s None = None
seen to s (Some r) = Some (to r.0, drop r.1 s)

abbrev pub seen_number : List ℕ → Option (ℕ × ℕ) → Option (ℕ × List ℕ)
seen_number s r = seen (λ v. v) s r

abbrev pub seen_text : List ℕ → Option (Text × ℕ) → Option (Option (List ℕ) × List ℕ)
seen_text s r = seen (text_of s) s r

abbrev pub seen_row : List ℕ → Option (Fields × ℕ) → Option (Row × List ℕ)
seen_row s r = seen (row_of s) s r

pub number_seen : (limit : ℕ) (s : List ℕ) (at : ℕ) → number limit (drop at s) ≡ seen_number s (reading_at limit s at)
unfolding number reading_at
number_seen limit s at = go (within limit (groups (drop at s)))
  where
    go : (o : Option (ℕ × ℕ)) → split_after (drop at s) o ≡ seen_number s (placed at o)
    go None = refl
    go (Some r) = rw drop-drop

-- a reader after another, by place and plain
after : {A B C D : Type 0} (s : List ℕ) (to : A → B) (on : C → D) (plain : Option (B × List ℕ)) (placed : Option (A × ℕ))
    (f : B × List ℕ → Option (D × List ℕ)) (g : A × ℕ → Option (C × ℕ)) → plain ≡ seen to s placed
    → ((a : A) (p : ℕ) → f (to a, drop p s) ≡ seen on s (g (a, p))) → and_then plain f ≡ seen on s (and_then placed g)
after {A} {B} {C} {D} s to on plain placed f g e h = rw e (go placed)
  where
    go : (r : Option (A × ℕ)) → and_then (seen to s r) f ≡ seen on s (and_then r g)
    go None = refl
    go (Some r) = h r.0 r.1

units_seen : (s : List ℕ) (size p : ℕ) → text_after size (drop p s) ≡ seen_text s (text_after_at s size p)
unfolding halves every_below
units_seen s zero p = rw (leb-zero (length s - p), add-zero p)
units_seen s (suc n) p =
    rw (less)
    (by_test (both (leb (2 * n) (length s - p)) (none_zero (halves (take (2 * n) (drop p s)))))
    (λ q. rw (length-drop p s, q, drop-drop, less, eqb-suc-zero n))
    (λ q. rw (length-drop p s, q)))
  where
    less : suc n - 1 ≡ n
    less = omega arith

pub text_seen : (s : List ℕ) (at : ℕ) → text (drop at s) ≡ seen_text s (text_at s at)
unfolding text text_at
text_seen s at = after s (λ v. v) (text_of s) _ _ _ _ (number_seen size_most s at) (units_seen s)

pub row_seen_lem : (s : List ℕ) (at : ℕ) → row (drop at s) ≡ seen_row s (row_at s at)
unfolding row row_at
row_seen_lem s at =
    after s (λ v. v) (row_of s) _ _ _ _ (number_seen key_most s at) λ key at₁.
    after s (λ v. v) (row_of s) _ _ _ _ (number_seen number_most s at₁) λ language at₂.
    after s (λ v. v) (row_of s) _ _ _ _ (number_seen number_most s at₂) λ default at₃.
    after s (text_of s) (row_of s) _ _ _ _ (text_seen s at₃) λ label at₄.
    after s (text_of s) (row_of s) _ _ _ _ (text_seen s at₄) λ note at₅. refl

-- the place after n rows
end_after : ℕ → List ℕ → ℕ → Option ℕ
end_after zero s at = Some at
end_after (suc n) s at = and_then (row_at s at) λ (f, next). end_after n s next

abbrev seen_end : List ℕ → List ℕ → Option ℕ → Option (List Row × List ℕ)
seen_end s starts None = None
seen_end s starts (Some e) = Some (map (row_seen s) starts, drop e s)

-- one row in front of the others
front : (s : List ℕ) (at : ℕ) (f : Fields) (next : ℕ) (starts : List ℕ) (o : Option ℕ) → row_at s at ≡ Some (f, next)
    → and_then (seen_end s starts o) (λ (rs, s₂). Some (row_of s f ∷ rs, s₂)) ≡ seen_end s (at ∷ starts) o
front s at f next starts None e = refl
front s at f next starts (Some end) e = rw e

-- the others, by what is known of n rows from any place
others : (n : ℕ) (s : List ℕ) (at : ℕ) (r : Option (Fields × ℕ)) → row_at s at ≡ r
    → ((next : ℕ) → rows n (drop next s) ≡ seen_end s (places_from n s next) (end_after n s next))
    → and_then (seen_row s r) (λ (x, s₁). and_then (rows n s₁) (λ (rs, s₂). Some (x ∷ rs, s₂)))
    ≡ seen_end s (at ∷ with_read r [] (λ f next. places_from n s next)) (and_then r (λ (f, next). end_after n s next))
others n s at None e h = refl
others n s at (Some r) e h = rw (h r.1) (front s at r.0 r.1 (places_from n s r.1) (end_after n s r.1) e)

rows_seen : (n : ℕ) (s : List ℕ) (at : ℕ) → rows n (drop at s) ≡ seen_end s (places_from n s at) (end_after n s at)
unfolding rows places_from end_after
rows_seen zero s at = refl
rows_seen (suc n) s at = rw (row_seen_lem s at) (others n s at (row_at s at) refl (rows_seen n s))

-- the end of the rows is within the bytes, and it is what the check compares with the length
end_inside : (n : ℕ) (s : List ℕ) (at e : ℕ) → at ≤ length s → end_after n s at ≡ Some e → e ≤ length s
unfolding end_after
end_inside zero s at e h q = let p : at ≡ e = some_is q in omega arith
end_inside (suc n) s at e h q = go (row_at s at) refl q (λ next l. end_inside n s next e l)
  where
    go : (r : Option (Fields × ℕ)) → row_at s at ≡ r → and_then r (λ (f, next). end_after n s next) ≡ Some e
        → ((next : ℕ) → next ≤ length s → end_after n s next ≡ Some e → e ≤ length s) → e ≤ length s
    go None p w k = absurd (none≢some w)
    go (Some r) p w k = k r.1 (row_inside s at r.0 r.1 p) w

abbrev ends_at : List ℕ → Option ℕ → Bool
ends_at s None = false
ends_at s (Some e) = eqb e (length s)

rows_end_lem : (n : ℕ) (s : List ℕ) (at : ℕ) → rows_end n s at ≡ ends_at s (end_after n s at)
unfolding rows_end end_after
rows_end_lem zero s at = refl
rows_end_lem (suc n) s at = go (row_at s at) (rows_end_lem n s)
  where
    go : (r : Option (Fields × ℕ)) → ((next : ℕ) → rows_end n s next ≡ ends_at s (end_after n s next))
        → with_read r false (λ f next. rows_end n s next) ≡ ends_at s (and_then r (λ (f, next). end_after n s next))
    go None h = refl
    go (Some r) h = h r.1

whole_seen : (s : List ℕ) (rs : List Row) (e : ℕ) → e ≤ length s → whole rs (drop e s) ≡ pick (eqb e (length s)) (Some rs) None
whole_seen s rs e h =
    by_test (eqb e (length s))
    (λ q. rw (q, drop_of_length-le s {i = e} (omega (arith, eqb-true e (length s) q))))
    (λ q. rw (q, drop-cons s e 0 (omega (arith, eqb-false e (length s) q))))

rows_whole : (n : ℕ) (s : List ℕ) (at : ℕ) → at ≤ length s
    → and_then (rows n (drop at s)) (λ (rs, s₂). whole rs s₂) ≡ pick (rows_end n s at) (Some (map (row_seen s) (places_from n s at))) None
rows_whole n s at h = rw (rows_seen n s at, rows_end_lem n s at) (go (end_after n s at) refl)
  where
    go : (o : Option ℕ) → end_after n s at ≡ o
        → and_then (seen_end s (places_from n s at) o) (λ (rs, s₂). whole rs s₂) ≡ pick (ends_at s o) (Some (map (row_seen s) (places_from n s at))) None
    go None e = refl
    go (Some end) e = whole_seen s (map (row_seen s) (places_from n s at)) end (end_inside n s at end h e)

-- a catalogue is accepted exactly where the plain parser reads it, and its rows are those that stand at the places noted
abbrev pub accepted : List ℕ → Bool
accepted s = eqb (refusal_of (checked s)) 0

pub catalogue_agrees : (s : List ℕ) → catalogue s ≡ pick (accepted s) (Some (map (row_seen s) (places s))) None
unfolding catalogue checked places
catalogue_agrees s =
    by_test (leb (length s) bytes_most)
    (λ q. rw (q, number_seen rows_most s 0) (go (reading_at rows_most s 0) refl))
    (λ q. rw q)
  where
    go : (r : Option (ℕ × ℕ)) → reading_at rows_most s 0 ≡ r
        → and_then (seen_number s r) (λ (n, s₁). and_then (rows n s₁) (λ (rs, s₂). whole rs s₂))
        ≡ pick
        (eqb (refusal_of (and_then r (λ (n, at). counted n (rows_end n s at)))) 0)
        (Some (map (row_seen s) (with_read r [] (λ n at. places_from n s at))))
        None
    go None e = refl
    go (Some r) e =
        rows_whole r.0 s r.1 (reading_read rows_most s 0 r.0 r.1 e).inside
        ∙ by_test (rows_end r.0 s r.1) (λ q. rw q) (λ q. rw q)

-- as many places are noted as the count says
places_length : (n : ℕ) (s : List ℕ) (at : ℕ) → rows_end n s at ≡ true → length (places_from n s at) ≡ n
unfolding rows_end places_from
places_length zero s at e = refl
places_length (suc n) s at e = ap suc (go (row_at s at) e (places_length n s))
  where
    go : (r : Option (Fields × ℕ)) → with_read r false (λ f next. rows_end n s next) ≡ true → ((next : ℕ) → rows_end n s next ≡ true → length (places_from n s next) ≡ n)
        → length (with_read r [] (λ f next. places_from n s next)) ≡ n
    go None q h = absurd (true≢false (sym q))
    go (Some r) q h = h r.1 q

pub rows_counted : (s : List ℕ) → accepted s ≡ true → length (places s) ≡ row_count (checked s)
unfolding checked places
rows_counted s e =
    by_test (leb (length s) bytes_most)
    (λ q. rw q (go (reading_at rows_most s 0) (rw q at e)))
    (λ q. absurd (true≢false (sym (rw q at e))))
  where
    go : (r : Option (ℕ × ℕ)) → eqb (refusal_of (and_then r (λ (n, at). counted n (rows_end n s at)))) 0 ≡ true
        → length (with_read r [] (λ n at. places_from n s at)) ≡ row_count (and_then r (λ (n, at). counted n (rows_end n s at)))
    go None w = absurd (true≢false (sym w))
    go (Some r) w =
        by_test (rows_end r.0 s r.1) (λ q. rw q (places_length r.0 s r.1 q)) (λ q. absurd (true≢false (sym (rw q at w))))

-- at each place noted stands a row
rows_stand : (n : ℕ) (s : List ℕ) (at : ℕ) → rows_end n s at ≡ true → (i : ℕ) → i < n
    → (f : Fields) × (next : ℕ) × (row_at s (get_or (places_from n s at) i 0) ≡ Some (f, next))
unfolding rows_end places_from
rows_stand zero s at e i h = absurd (not-suc-le-zero h)
rows_stand (suc n) s at e i h = go (row_at s at) refl e i h (rows_stand n s)
  where
    go : (r : Option (Fields × ℕ)) → row_at s at ≡ r → with_read r false (λ f next. rows_end n s next) ≡ true → (i : ℕ) → i < suc n
        → ((next : ℕ) → rows_end n s next ≡ true → (i : ℕ) → i < n → (f : Fields) × (end : ℕ) × (row_at s (get_or (places_from n s next) i 0) ≡ Some (f, end)))
        → (f : Fields) × (end : ℕ) × (row_at s (get_or (at ∷ with_read r [] (λ f next. places_from n s next)) i 0) ≡ Some (f, end))
    go None p q i l k = absurd (true≢false (sym q))
    go (Some r) p q zero l k = (r.0, r.1, p)
    go (Some r) p q (suc i) l k = k r.1 q i (le_of_suc-le-suc l)

pub row_stands : (s : List ℕ) → accepted s ≡ true → (i : ℕ) → i < row_count (checked s)
    → (f : Fields) × (next : ℕ) × (row_at s (get_or (places s) i 0) ≡ Some (f, next))
unfolding checked places
row_stands s e i h =
    by_test (leb (length s) bytes_most)
    (λ q. rw q (go (reading_at rows_most s 0) (rw q at e) (rw q at h)))
    (λ q. absurd (true≢false (sym (rw q at e))))
  where
    go : (r : Option (ℕ × ℕ)) → eqb (refusal_of (and_then r (λ (n, at). counted n (rows_end n s at)))) 0 ≡ true
        → i < row_count (and_then r (λ (n, at). counted n (rows_end n s at)))
        → (f : Fields) × (next : ℕ) × (row_at s (get_or (with_read r [] (λ n at. places_from n s at)) i 0) ≡ Some (f, next))
    go None w l = absurd (true≢false (sym w))
    go (Some r) w l =
        by_test (rows_end r.0 s r.1) (λ q. rows_stand r.0 s r.1 q i (rw q at l)) (λ q. absurd (true≢false (sym (rw q at w))))

-- the check's refusal is the plain parser's
refused_by_three : (o : Option ℕ) → eqb (refusal_of o) 0 ≡ false → refusal_of o ≡ 3
refused_by_three None e = refl
refused_by_three (Some n) e = absurd (true≢false e)

pub refusal_agrees : (s : List ℕ) → refusal_of (checked s) ≡ refusal_of (catalogue s)
refusal_agrees s =
    by_test (accepted s)
    (λ q. rw (catalogue_agrees s, q) (eqb-true (refusal_of (checked s)) 0 q))
    (λ q. rw (catalogue_agrees s, q) (refused_by_three (checked s) q))
