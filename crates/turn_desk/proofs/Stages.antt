-- Where a pass stands: what its ticket and its place in the line tell.
use Rattle.std.proofs.Common.{◌≡◌, ◌≢◌, ℕ, ◌+◌, ◌<◌, ◌≤◌, List, [], ◌∷◌, map, false, refl, ap, arith}
use Rattle.std.specs.Prelude.{Option, Some, None}
use Rattle.std.specs.Option.{is_some}
use Rattle.turn_desk.specs.declared.view.Slot.{Slot}
use Rattle.turn_desk.specs.Standing.{IsIdle, HasTaken}
use Rattle.turn_desk.specs.declared.held.Note.{Note}
use Rattle.turn_desk.specs.declared.view.Stage.{Stage}
use Rattle.turn_desk.specs.declared.view.Stage.TheVariants.{Spent, Idle, Waits, InTurn}
use Rattle.turn_desk.specs.declared.view.View.{View}
use Rattle.turn_desk.specs.Notes.{size_of}
use Rattle.turn_desk.specs.Rule.{IsPresent, IsAside, if_present, tickets_of, HasTicket, IsInLine, Stands}

module _ {V : Type 0} where
  pub later : (serving drawn : ℕ) (value : V) (st : Stage V) → IsInLine serving drawn value st → IsInLine serving (drawn + 1) value st
  later serving drawn value Spent l = tt
  later serving drawn value Idle l = tt
  later serving drawn value (Waits t) l = (l.0, (let a = l.1 in omega arith))
  later serving drawn value (InTurn t x) l = (l.0, (let a = l.1 in omega arith), l.2)

  -- once the turn has ended, who had no part in it stands on, over whatever value
  pub next_turn : (serving drawn : ℕ) (value new : V) (st : Stage V) → (HasTicket serving st → ⊥) → IsInLine serving drawn value st → IsInLine (serving + 1) drawn new st
  next_turn serving drawn value new Spent free l = tt
  next_turn serving drawn value new Idle free l = tt
  next_turn serving drawn value new (Waits t) free l = (let other : t ≢ serving = free in let a = l.0 in omega arith, l.1)
  next_turn serving drawn value new (InTurn t x) free l = absurd (free l.0)

  pub ticket_drawn : (serving drawn : ℕ) (value : V) (t : ℕ) (st : Stage V) → HasTicket t st → IsInLine serving drawn value st → t < drawn
  ticket_drawn serving drawn value t Spent has l = absurd has
  ticket_drawn serving drawn value t Idle has l = absurd has
  ticket_drawn serving drawn value t (Waits u) has l = (let e : u ≡ t = has in let a = l.1 in omega arith)
  ticket_drawn serving drawn value t (InTurn u x) has l = (let e : u ≡ t = has in let a = l.1 in omega arith)

  pub turn_ticket : (serving drawn : ℕ) (value : V) (st : Stage V) → (IsAside st → ⊥) → IsInLine serving drawn value st → HasTicket serving st
  turn_ticket serving drawn value Spent busy l = absurd (busy tt)
  turn_ticket serving drawn value Idle busy l = absurd (busy tt)
  turn_ticket serving drawn value (Waits t) busy l = absurd (busy tt)
  turn_ticket serving drawn value (InTurn t x) busy l = l.0

  pub no_ticket_aside : (serving drawn : ℕ) (value : V) (st : Stage V) → (HasTicket serving st → ⊥) → IsInLine serving drawn value st → IsAside st
  no_ticket_aside serving drawn value Spent free l = tt
  no_ticket_aside serving drawn value Idle free l = tt
  no_ticket_aside serving drawn value (Waits t) free l = tt
  no_ticket_aside serving drawn value (InTurn t x) free l = absurd (free l.0)

  pub busy_present : (st : Stage V) → (IsAside st → ⊥) → IsPresent st
  busy_present Spent busy = absurd (busy tt)
  busy_present Idle busy = tt
  busy_present (Waits t) busy = tt
  busy_present (InTurn t x) busy = tt

  pub present_size : (n : ℕ) (st : Stage V) → IsPresent st → if_present n st ≡ n
  present_size n Spent p = absurd p
  present_size n Idle p = refl
  present_size n (Waits t) p = refl
  present_size n (InTurn t x) p = refl

  pub tickets_at_most : (n : ℕ) (st : Stage V) → (IsPresent st → 0 < n) → tickets_of st ≤ if_present n st
  tickets_at_most n Spent some = omega arith
  tickets_at_most n Idle some = omega arith
  tickets_at_most n (Waits t) some = (let h = some tt in omega arith)
  tickets_at_most n (InTurn t x) some = (let h = some tt in omega arith)

module _ {V A C : Type 0} where
  pub size_positive : (fits : V → C → Note A → Type 0) (constant : C) (value : V) (v : View V A C) → Stands fits constant value v → 0 < size_of v.note
  size_positive fits constant value v s = (let h = s.sound.own in omega arith)

module _ {V : Type 0} where
  pub idle_is : (st : Stage V) → IsIdle st → st ≡ Idle
  idle_is Spent i = absurd i
  idle_is Idle i = refl
  idle_is (Waits t) i = absurd i
  idle_is (InTurn t x) i = absurd i

  pub taken_is : (x : V) (st : Stage V) → HasTaken x st → (t : ℕ) × (st ≡ InTurn t x)
  taken_is x Spent h = absurd h
  taken_is x Idle h = absurd h
  taken_is x (Waits t) h = absurd h
  taken_is x (InTurn t y) h = (t, ap (InTurn t) h)

  pub none_left : (o : Option V) → is_some o ≡ false → o ≡ None
  none_left None e = refl
  none_left (Some x) e = absurd (cc)

module _ {V A : Type 0} where
  -- a seat with the slot out holds just that
  pub one_out : (cs : List (ℕ × Slot V A)) → map (λ k. k.0) cs ≡ 0 ∷ [] → map (λ k. is_some k.1.value) cs ≡ false ∷ [] → (x : Slot V A) × (cs ≡ (0, x) ∷ []) × (x.value ≡ None)
  one_out [] a b = absurd (cc)
  one_out (k ∷ []) a b = (k.1, (let e : k.0 ≡ 0 = cc in λ i. (e i, k.1) ∷ []), (let e : is_some k.1.value ≡ false = cc in none_left k.1.value e))
  one_out (k ∷ l ∷ cs) a b = absurd (cc)
