-- The rule of the lock, and what each of its steps tells.
-- The word is 0, or twice the number of the pass that holds the state, and 1 more where a thread
-- may sleep until it is given back. The slot has the state where no pass holds it.
use Rattle.std.specs.Prelude.{◌≡◌, ◌≢◌, ℕ, ◌+◌, ◌/◌, ◌<◌, ◌≤◌, List, [], ◌∷◌, ◌++◌, Option, Some}
use Rattle.std.specs.Prelude.{None, Bool, false, true, All, slice_index, length, map}
use mathlib.Core.Option.{some}
use lib.ListN.{get_elem?}
use Rattle.atomic_table.specs.Table.{State, Me, Step}
use Rattle.atomic_table.specs.Seated.{TableId}
use Rattle.turn_lock.specs.declared.story.Made.{Made}
use Rattle.turn_lock.specs.declared.turns.Front.{Front}
use Rattle.turn_lock.specs.declared.turns.Known.{Known}
use Rattle.turn_lock.specs.declared.turns.About.{About}
use Rattle.turn_lock.specs.Stories.{AllMadeUpTo, RestsFor}
use Rattle.turn_lock.specs.Passes.{LockView, PassView, IsPassOf}

-- the number of the pass that holds the state, or 0, by the word
abbrev pub holder : ℕ → ℕ
holder word = word / 2

module _ {E F : Type 0} where
  -- the front of the pass number n
  abbrev pub front : ℕ → F → List (Made E) → Front E F
  front n fixed seen = record { number = n; fixed = fixed; seen = seen }

  -- a seat that holds nothing
  abbrev pub resting : Front E F → Known E F
  resting f = record { holds = false; deals = false; fronts = f ∷ [] }

  -- a seat that deals out the numbers that follow its own
  abbrev pub dealing : Front E F → Known E F
  dealing f = record { holds = false; deals = true; fronts = f ∷ [] }

  -- a seat that holds the state
  abbrev pub holding : Front E F → Known E F
  holding f = record { holds = true; deals = false; fronts = f ∷ [] }

  -- the front, with these steps seen
  abbrev pub with_seen : Front E F → List (Made E) → Front E F
  with_seen f seen = record f { seen = seen }

  -- the front of the next pass, which has seen nothing
  abbrev pub next_front : Front E F → Front E F
  next_front f = front (f.number + 1) f.fixed []

  -- the next front after the first
  abbrev pub next_fronts : List (Front E F) → List (Front E F)
  next_fronts [] = []
  next_fronts (f ∷ fs) = next_front f ∷ []

  -- a seat that has dealt out the next number
  abbrev pub dealt : Known E F → Known E F
  dealt v = record v { deals = false }

  -- the seat that was dealt, and deals on
  abbrev pub dealt_next : Known E F → Known E F
  dealt_next v = record { holds = false; deals = true; fronts = next_fronts v.fronts }

  -- two seats that rest, as one, with the fronts of the second before those of the first
  abbrev pub joined : Known E F → Known E F → Known E F
  joined v w = record { holds = false; deals = false; fronts = w.fronts ++ v.fronts }

  -- a seat that was joined to another
  abbrev pub spent : Known E F
  spent = record { holds = false; deals = false; fronts = [] }

  module _ (story : List (Made E)) (fixed : F) (top : ℕ) (seat : ℕ → ℕ) where
    -- the front is of a number that was dealt to the seat `at`, and the story goes on from it with
    -- no step of that number
    pub record FitsFront (at : ℕ) (f : Front E F) : Type 0 where
      pub dealt : (0 < f.number) × (f.number ≤ top)
      pub seated : seat f.number ≡ at
      pub same : f.fixed ≡ fixed
      pub rests : RestsFor f.number story f.seen

    -- the seat that holds has the number in the word and has seen the whole story, and the seat
    -- that deals has the last number
    pub record FitsView (number at : ℕ) (v : Known E F) : Type 0 where
      pub fronts : All (FitsFront at) v.fronts
      pub held : v.holds ≡ true → (0 < number) × (v.fronts ≡ front number fixed story ∷ [])
      pub last : v.deals ≡ true
          → (seen : List (Made E)) × (v.fronts ≡ front top fixed seen ∷ [])

-- what a step tells: of the step, the seat before, the word found, and the seat after
abbrev pub Told : Type 0 → Type 0 → Type 0 → Type 1
Told S E F = Step (Option S) → Me (Option S) (Known E F) → ℕ → Me (Option S) (Known E F) → Type 0

-- a mark changes nothing that the seat knows
abbrev pub marked : {S E F : Type 0} → Told S E F
marked st m found m' = m' ≡ m

module _ {S E F : Type 0} (story_of : S → List (Made E)) (fixed_of : S → F) where
  -- There is one story, which no one made but those with a number. Each view fits it. Where no
  -- pass holds the state, one that tells the story is at home and the word is 0, and else some seat
  -- holds it.
  pub record OneStory (about : About S) (s : State (Option S) (Known E F)) : Type 0 where
    pub story : List (Made E)
    pub top : ℕ
    pub seat : ℕ → ℕ
    pub one_word : length s.words ≡ 1
    pub few : top ≤ about.seats
    pub makers : AllMadeUpTo top story
    pub views : (at : ℕ) (v : Known E F) → get_elem? s.views at ≡ some v
        → FitsView story (fixed_of about.state.value) top seat
        (holder (slice_index s.words 0)) at v
    pub home : holder (slice_index s.words 0) ≡ 0
        → (x : S) × (get_elem? s.homes 0 ≡ some (some (Some x))) × (story_of x ≡ story)
        × (fixed_of x ≡ fixed_of about.state.value) × (slice_index s.words 0 ≡ 0)
    pub out : 0 < holder (slice_index s.words 0)
        → (at : ℕ) × (v : Known E F) × (get_elem? s.views at ≡ some v) × (v.holds ≡ true)

  -- a try wins where it finds 0: the seat holds the state and has seen its story. Else nothing
  -- changes
  abbrev pub tried : Told S E F
  tried st m found m' = (f : Front E F) → m.0.fronts ≡ f ∷ []
      → (found ≡ 0 → (x : S)
      × (m' ≡ (holding (with_seen f (story_of x)), (0, Some x) ∷ m.1))
      × (fixed_of x ≡ f.fixed) × RestsFor f.number (story_of x) f.seen)
      × (found ≢ 0 → m' ≡ m)

  -- a give: the seat has seen the story of the state that it gave
  abbrev pub gave : Told S E F
  gave st m found m' = (f : Front E F) (x : S) → m.0.fronts ≡ f ∷ [] → m.1 ≡ (0, Some x) ∷ []
      → m' ≡ (resting (with_seen f (story_of x)), [])

-- a pass at the table: whether it holds the slot, and what it has taken
pub record PlaceView (S E F : Type 0) : Type 0 where
  pub pass : PassView E F
  pub holds : Bool
  pub taken : List (ℕ × Option S)

module _ {E F : Type 0} where
  -- what was seen, by the first front
  abbrev pub seen_first : List (Front E F) → List (Made E)
  seen_first [] = []
  seen_first (f ∷ fs) = f.seen

  -- what no step changes, by the first front; `none` where there is no front
  abbrev pub fixed_first : F → List (Front E F) → F
  fixed_first none [] = none
  fixed_first none (f ∷ fs) = f.fixed

  -- what a seat is seen as: a pass
  abbrev pub pass_view : F → TableId → ℕ → Known E F → PassView E F
  pass_view none id n v = record {
    lock = id;
    number = n;
    fixed = fixed_first none v.fronts;
    front = seen_first v.fronts;
  }

  -- the seat has one front, of this number
  abbrev pub HasFront : F → ℕ → Known E F → Type 0
  HasFront none n v =
      (0 < n) × (v.fronts ≡ front n (fixed_first none v.fronts) (seen_first v.fronts) ∷ [])

  -- what of a pass is proved at each turn: its number, what no step changes, and the steps that it
  -- has seen
  abbrev pub front_of : PassView E F → Front E F
  front_of p = front p.number p.fixed p.front

  module _ {S : Type 0} where
    -- a seat as a place
    abbrev pub place_view : F → TableId → ℕ → Me (Option S) (Known E F) → PlaceView S E F
    place_view none id n m = record {
      pass = pass_view none id n m.0;
      holds = m.0.holds;
      taken = m.1;
    }

    -- a pass that holds nothing of the lock
    abbrev pub at_rest : PassView E F → PlaceView S E F
    at_rest p = record { pass = p; holds = false; taken = [] }

    -- a pass of the lock holds nothing, and would hold the state by this word
    pub record IsReady (of : LockView) (word : ℕ) (p : PlaceView S E F) : Type 0 where
      pub lock : IsPassOf of p.pass
      pub rests : p ≡ at_rest p.pass
      pub held : holder word ≡ p.pass.number

    -- the pass holds the slot with the state in it
    abbrev pub with_state : S → PassView E F → PlaceView S E F
    with_state x p = record { pass = p; holds = true; taken = (0, Some x) ∷ [] }

    -- the pass holds the slot, and the state was taken out of it
    abbrev pub with_nothing : PassView E F → PlaceView S E F
    with_nothing p = record { pass = p; holds = true; taken = (0, None) ∷ [] }

    -- the seat rests, and has the fronts of these passes
    abbrev pub HasFronts : List (PassView E F) → Me (Option S) (Known E F) → Type 0
    HasFronts passes m =
        (m.1 ≡ []) × (m.0.holds ≡ false) × (m.0.fronts ≡ map front_of passes)

    -- the pass holds a state, and has seen its story, which goes on from what it had seen
    abbrev pub Wins : (S → List (Made E)) → (S → F) → PassView E F → PlaceView S E F → Type 0
    Wins story_of fixed_of p now = (x : S)
        × (now ≡ with_state x (record p { front = story_of x }))
        × (fixed_of x ≡ p.fixed) × RestsFor p.number (story_of x) p.front
