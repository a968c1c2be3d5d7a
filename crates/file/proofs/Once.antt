-- What the contracts of recorded calls allow is one outcome. Assumes nothing.
use mathlib.Core.Path.{◌≡◌, sym, ◌∙◌}
use mathlib.Core.List.{List}
use Prim.Native.Nat.{ℕ}
use Rattle.line.specs.declared.Place.{Place}
use Rattle.line.specs.declared.Out.{Out}
use Rattle.line.proofs.TextLaws.{put_once}
use Rattle.file.specs.Served.{Answer, Serves, ServesOut, Lent, Lends, LineServed}

pub serves_once : (a : Answer) (used r r' : ℕ) (w w' before after after' : List ℕ) → Serves a used r w before after → Serves a used r' w' before after'
    → (r ≡ r') × (w ≡ w') × (after ≡ after')
serves_once a used r r' w w' before after after' p q =
    let s = put_once a.text used r r' before after after' p.said q.said in (s.0, p.kept ∙ sym q.kept, s.1)

pub serves_out_once : (a : Answer) (w w' : List ℕ) (before after after' : Out) → ServesOut a w before after → ServesOut a w' before after'
    → (w ≡ w') × (after.used ≡ after'.used) × (after.bytes.now ≡ after'.bytes.now) × (after.bytes.ghost_name ≡ after'.bytes.ghost_name)
serves_out_once a w w' before after after' p q =
    let s = serves_once a before.used after.used after'.used w w' before.bytes.now after.bytes.now after'.bytes.now p.serves q.serves in
    (s.1, s.0, s.2, p.stays.same ∙ sym q.stays.same)

pub lends_once : (l : Lent) (r r' : ℕ) (exit exit' : List ℕ) → Lends l r exit → Lends l r' exit' → (r ≡ r') × (exit ≡ exit')
lends_once l r r' exit exit' p q = (p.sized ∙ sym q.sized, p.left ∙ sym q.left)

-- a line leaves one table, one catalogue, one output and one place
pub record Same (r r' : Place) (t t' s s' out out' : List ℕ) : Type 0 where
  pub words : t ≡ t'
  pub buffer : s ≡ s'
  pub output : out ≡ out'
  pub catalogue : r.catalogue ≡ r'.catalogue
  pub used : r.used ≡ r'.used
  pub number : r.number ≡ r'.number
  pub kept : r.kept ≡ r'.kept
  pub cut : r.cut ≡ r'.cut

pub line_once : (line : List ℕ) (p : Place) (t s out : List ℕ) (r r' : Place) (t₁ t₂ s₁ s₂ out₁ out₂ : List ℕ)
    → LineServed line p t s out r t₁ s₁ out₁ → LineServed line p t s out r' t₂ s₂ out₂ → Same r r' t₁ t₂ s₁ s₂ out₁ out₂
line_once line p t s out r r' t₁ t₂ s₁ s₂ out₁ out₂ a b =
    let l = lends_once _ r.catalogue r'.catalogue s₁ s₂ a.lent b.lent in
    record {
      words = rw (l.0, l.1) at a.words ∙ sym b.words;
      buffer = l.1;
      output = rw (l.0, l.1) at a.said ∙ sym b.said;
      catalogue = l.0;
      used = rw (l.0, l.1) at a.used ∙ sym b.used;
      number = a.number ∙ sym b.number;
      kept = a.kept ∙ sym b.kept;
      cut = a.cut ∙ sym b.cut;
    }
