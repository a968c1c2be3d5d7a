-- An answer by its number (01: "When an answer is an enum, a definition gives this paper's number and values for each of its cases").
use Rattle.std.specs.Prelude.{Option, None, Some, ℕ}
use Rattle.lists.specs.Options.{and_then}

-- the number, and the values where there are some
pub record Numbered (A : Type 0) : Type 0 where
  pub number : ℕ
  pub values : Option A

-- values, which have the number 0; a refusal, which has none
abbrev pub given : {A : Type 0} → A → Numbered A
given a = record { number = 0; values = Some a }

abbrev pub refused_by : {A : Type 0} → ℕ → Numbered A
refused_by n = record { number = n; values = None }

-- what a plain definition reads, or the refusal that names why it reads nothing
abbrev pub or_refused : {A : Type 0} → ℕ → Option A → Numbered A
or_refused n None = refused_by n
or_refused n (Some a) = given a

-- the same number, with the values as another definition has them
abbrev pub on_values : {A B : Type 0} → (A → B) → Numbered A → Numbered B
on_values f r = record { number = r.number; values = and_then r.values (λ a. Some (f a)) }
