-- One relation for every job call: what it does to the register, to its book and to the chooser.
use Rattle.std.specs.Prelude.{◌≡◌, ℕ, ◌+◌, ◌≤◌, List, [], ◌∷◌, ◌++◌, length, take, drop, Some, None, Option, Result}
use Rattle.terms.specs.declared.records.Entry.{Entry}
use Rattle.terms.specs.declared.refusals.Refusal.{Refusal}
use Rattle.choosers.specs.Meaning.{Meaning, moved_on}
use Rattle.rules.specs.declared.calls.Call.{Call}
use Rattle.rules.specs.declared.calls.Answer.{Answer}
use Rattle.rules.specs.Registers.{Register}
use Rattle.rules.specs.JobCalls.{outcome}

---- The book

-- the statement holds of each of the list
abbrev pub All : {A : Type 0} → (A → Type 0) → List A → Type 0
All P [] = Unit {0}
All P (x ∷ xs) = P x × All P xs

abbrev pub NotAbove : Entry → Entry → Type 0
NotAbove e f = e.place.0 ≤ f.place.0

-- no entry has a lower place than one before it
abbrev pub Ascending : List Entry → Type 0
Ascending [] = Unit {0}
Ascending (e ∷ es) = All (NotAbove e) es × Ascending es

-- e is put somewhere into the day book, which is the first `ended` entries of the book, and the others keep their order;
-- where the day book ascends it goes after all lower and before all higher places, so that its spot is open among equal places and in a disordered book
pub record Inserted (ended : ℕ) (e : Entry) (before after : List Entry) : Type 0 where
  pub front : List Entry
  pub back : List Entry
  pub was : take ended before ≡ front ++ back
  pub is : take (ended + 1) after ≡ front ++ (e ∷ back)
  pub past_unaltered : drop (ended + 1) after ≡ drop (ended + 1) before
  pub same_length : length after ≡ length before
  pub in_place : Ascending (front ++ back) → All (λ f. NotAbove f e) front × All (NotAbove e) back

-- the entry, if there is one, is put in; else the book is unaltered
abbrev pub Entered : ℕ → Option Entry → List Entry → List Entry → Type 0
Entered ended None before after = after ≡ before
Entered ended (Some e) before after = Inserted ended e before after

abbrev pub with_book : {V : Type 0} → Register V → List Entry → Register V
with_book r es = record {
  head = r.head;
  tables = record {
    values = r.tables.values;
    written = r.tables.written;
    read = r.tables.read;
    jobs = r.tables.jobs;
    own = r.tables.own;
    flags = r.tables.flags;
    book = es;
  };
}

---- The chooser

-- its meaning once it has been asked with the pair of bounds, if there is one
abbrev pub moved_if : Meaning → Option (ℕ × ℕ) → Meaning
moved_if f None = f
moved_if f (Some bounds) = moved_on f bounds.0 bounds.1

---- The call

-- the call k on the register r, with a chooser that means f, is answered a, and leaves the register r' and a chooser that means f'
pub record Performs {V : Type 0} (d : V) (r : Register V) (f : Meaning) (k : Call V) (a : Result (Answer V) Refusal) (r' : Register V) (f' : Meaning) : Type 0 where
  pub answers : a ≡ (outcome d (f []) r k).answer
  pub leaves : r' ≡ with_book (outcome d (f []) r k).left r'.tables.book
  pub asks : f' ≡ moved_if f (outcome d (f []) r k).asked
  pub enters : Entered r.head.ended (outcome d (f []) r k).entry r.tables.book r'.tables.book
