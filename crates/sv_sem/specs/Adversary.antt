-- Believed: what the world outside may do, to any finite depth, and what is remembered of a history. Hold it against Solidity's documentation, "External Function Calls" and "Re-Entrancy".
use Rattle.std.specs.Prelude.{ℕ, Bool, List}
use Rattle.sv_type.specs.StorageTrees.{Tree}
use Rattle.sv_core.specs.PlainCore.{Function}
use Rattle.sv_sem.specs.States.{State, View}

mutual
  -- a call from outside of a function, by its place among the contract's functions. Arguments are trees of its types
  pub data Visit : Type 0 where
    Visits : (f : ℕ) (args : List Tree) (sender value time number gas : ℕ) (replies : Replies) → Visit

  -- a visit, or ether that comes by force
  pub data Event : Type 0 where
    Comes : (v : Visit) → Event
    Gift : (amount : ℕ) → Event

  pub data Events : Type 0 where
    NoEvent : Events
    ThenEvent : (e : Event) (es : Events) → Events

  -- what one call of another account meets: whether it succeeds, its results as trees, and what happens during it
  pub data Reply : Type 0 where
    AReply : (ok : Bool) (results : List Tree) (during : Events) → Reply

  -- one reply for each call that is made, in order
  pub data Replies : Type 0 where
    NoReply : Replies
    ThenReply : (r : Reply) (rs : Replies) → Replies

-- ---- marks

pub data Mark : Type 0 where
  -- a state at which the invariants are to hold
  AtState : (s : State) → Mark
  -- an end of a function that doesn't revert: its entry, and its end
  AtEnd : (f : Function) (entry end : View) → Mark
  -- an assert that failed
  Broken : Mark

-- what something leaves that comes from outside
pub record After : Type 0 where
  pub state : State
  pub marks : List Mark

-- a reply, with what happens during it as a function of the state
pub record Meeting : Type 0 where
  pub ok : Bool
  pub results : List Tree
  pub during : State → After
