-- WHAT A BOOK AND THE KERNELS TELL of a link is what the laws say of it.
use Rattle.std.proofs.Common.{◌≡◌, ℕ, suc, ◌-◌, ◌<◌, ◌≤◌, Bool, true, false, List, [], ◌∷◌, length}
use Rattle.std.proofs.Common.{Option, Some, None, slice_get, nat_le, refl, sym, ◌∙◌, ap, subst}
use Rattle.std.proofs.Common.{arith, le-leb, leb-true, true≢false, if◌then◌else◌}
use Rattle.std.specs.Prelude.{IsSomeAnd}
use Rattle.std.specs.Option.{unwrap_or}
use Rattle.linx_base.specs.Sides.{other_of}
use Rattle.linx_base.specs.declared.frame.LinkDecl.{LinkDecl}
use Rattle.linx_base.specs.declared.identity.LinkNo.{LinkNo}
use Rattle.linx_base.specs.declared.identity.NodeNo.{NodeNo}
use Rattle.linx_base.specs.declared.identity.Peer.TheVariants.{Here, There}
use Rattle.linx_base.specs.declared.identity.Session.{Session}
use Rattle.linx_base.specs.declared.identity.Side.{Side}
use Rattle.linx_base.specs.declared.identity.Side.TheVariants.{First, Second}
use Rattle.journal.specs.Sessions.{up_session}
use Rattle.journal.specs.Shapes.{Shape}
use Rattle.journal.specs.declared.effect.Effect.{Effect}
use Rattle.journal.specs.declared.effect.Effect.TheVariants.{Arrived, Down, Gone, Met}
use Rattle.journal.specs.declared.effect.Step.{Step}
use Rattle.link_laws.specs.Ends.{IsLinkOf, end_or_0, link_at, node_at}
use Rattle.link_laws.specs.Sessions.{is_cut, silent_ticks}
use Rattle.link_laws.specs.Still.{IsStill}
use Rattle.node_kernel.specs.Nodes.{NodeState, empty_node}
use Rattle.link_tables.specs.Arrivals.{count_in, counts_left}
use Rattle.link_tables.specs.Sides.{SideSoFar, side_left}
use Rattle.link_tables.specs.declared.sent.Flow.{Flow}
use Rattle.link_check.specs.Books.{BookSoFar, end_no}
use Rattle.link_check.specs.Coming.{IsLosing, MayCome, MayComeIf, MayLose}
use Rattle.link_check.specs.Deliveries.{Known, is_session, known_left, may_bring}
use Rattle.link_check.specs.Lines.{LineSoFar, fresh_line, line_left, side_in}
use Rattle.link_check.specs.Orderly.{IsNodeTold}
use Rattle.link_check.specs.Reading.{brought_by}
use Rattle.link_check.specs.Rest.{stirred_left}
use Rattle.link_check.specs.Stillness.{Ends}
use Rattle.link_check.specs.declared.rest.Stir.{Stir}
use Rattle.link_check.specs.Told.{AreLeft, IsBetween, IsReady, IsThere, are_none, ends_in, ends_of}
use Rattle.link_check.specs.Told.{is_still_at, is_still_by, kernel_in, known_at, line_in, may_lose, may_pass_if, nowhere}
use Rattle.link_check.proofs.Deliveries.{may-told, told-may}
use Rattle.link_check.proofs.Legal.{legal-orderly}
use Rattle.link_check.proofs.Lines.{TellsEnd, settled-still, still-settled, still-told, told-still}
use Rattle.link_check.proofs.Nodes.{tells-alive, tells-names}
use Rattle.link_check.proofs.AtLinks.{all-at, at-place}
use Rattle.link_check.proofs.Rests.{stirred-but}
use Rattle.link_check.proofs.Tests.{session-up, up-session}

none-is : (es : List Effect) → are_none es ≡ true → es ≡ []
none-is [] is = refl
none-is (e ∷ es) is = absurd (true≢false (sym is))

-- A TICK of a side that the history leaves
module _ (P : List Step) (n : ℕ) (l : LinkNo) (side : Side) where
  abbrev quiet_for : ℕ
  quiet_for = silent_ticks P n l.0 side

  abbrev MayTell : List Effect → Type 0
  MayTell es = IsSomeAnd (brought_by es) (MayLose P n l side)

  is-losing : (x : Session) (b : Bool) → nat_le 2 quiet_for ≡ b
      → is_session (if b then up_session P n l.0 else None) x ≡ true → IsLosing P n l side x
  is-losing x true quiet is =
      record { up = session-up (up_session P n l.0) x is; silent = leb-true 2 quiet_for quiet }
  is-losing x false quiet is = absurd (true≢false (sym is))

  lose-told : (es : List Effect) → may_lose (side_left P n l.0 side) es ≡ true → MayTell es
  lose-told [] is = tt
  lose-told (Down k h x ∷ es) is = is-losing x (nat_le 2 quiet_for) refl is
  lose-told (_ ∷ es) is = absurd (true≢false (sym is))

  told-lose : (es : List Effect) → MayTell es → may_lose (side_left P n l.0 side) es ≡ true
  told-lose [] may = refl
  told-lose (Down k h x ∷ es) may =
      subst (λ (b : Bool). is_session (if b then up_session P n l.0 else None) x ≡ true)
      (sym (le-leb 2 quiet_for may.silent)) (up-session (up_session P n l.0) x may.up)
  told-lose (Arrived b (There h x a) note ∷ es) may = absurd may
  told-lose (Arrived b (Here i) note ∷ es) may = absurd may
  told-lose (Met k (There h x a) name ∷ es) may = absurd may
  told-lose (Met k (Here i) name ∷ es) may = absurd may
  told-lose (Gone k (There h x a) ∷ es) may = absurd may
  told-lose (Gone k (Here i) ∷ es) may = absurd may
  told-lose (_ ∷ es) may = absurd may

-- A LINK of the book
module _ (shape : Shape) (P : List Step) (book : BookSoFar) (kernels : List NodeState)
    (left : AreLeft shape P book kernels) (ready : IsReady book kernels) (l : LinkNo)
    (there : IsThere book l) where
  abbrev ends : LinkDecl
  ends = ends_in book l

  abbrev home : Side → NodeNo
  home side = end_no ends side

  abbrev node : Side → NodeState
  node side = kernel_in kernels (home side)

  number : suc (l.0 - 1) ≡ l.0
  number = let above : 0 < l.0 = there.above in omega arith

  within : l.0 - 1 < length book.links
  within =
      let above : 0 < l.0 = there.above in
      let under : l.0 ≤ length book.links = there.within in
      omega arith

  in-book : slice_get book.links (l.0 - 1) ≡ Some ends
  in-book = at-place book.links (l.0 - 1) nowhere within

  in-shape : slice_get shape.links (l.0 - 1) ≡ Some ends
  in-shape =
      ap (λ (links : List LinkDecl). slice_get links (l.0 - 1)) (sym left.tables.links) ∙ in-book

  linked : link_at shape l.0 ≡ Some ends
  linked = subst (λ (k : ℕ). link_at shape k ≡ Some ends) number in-shape

  pub node-is : (side : Side) → node_at shape l side ≡ (home side).0
  node-is First = ap (λ (o : Option LinkDecl). end_or_0 o First) linked
  node-is Second = ap (λ (o : Option LinkDecl). end_or_0 o Second) linked

  -- its sides, and whether it is cut
  line-is : line_in book l ≡ line_left P l.0 ends
  line-is =
      ap (λ (o : Option LineSoFar). unwrap_or o fresh_line)
      (left.tables.lines.each (l.0 - 1) ends in-shape)
      ∙ ap (λ (k : ℕ). line_left P k ends) number

  pub side-is : (side : Side) → side_in (line_in book l) side ≡ side_left P (home side).0 l.0 side
  side-is First = ap (λ (line : LineSoFar). line.first) line-is
  side-is Second = ap (λ (line : LineSoFar). line.second) line-is

  pub cut-is : (line_in book l).cut ≡ is_cut P l.0
  cut-is = ap (λ (line : LineSoFar). line.cut) line-is

  -- the nodes at its ends
  between : IsBetween (length kernels) ends
  between = all-at (IsBetween (length kernels)) book.links (l.0 - 1) ends ready.between in-book

  is-node : (side : Side) → (0 < (home side).0) × ((home side).0 ≤ length kernels)
  is-node First = (between.first_above, between.first_within)
  is-node Second = (between.second_above, between.second_within)

  node-told : (n : NodeNo) → 0 < n.0 → n.0 ≤ length kernels
      → IsNodeTold P n.0 (kernel_in kernels n)
  node-told n above under =
      let one : suc (n.0 - 1) ≡ n.0 = omega arith in
      let less : n.0 - 1 < length kernels = omega arith in
      subst (λ (k : ℕ). IsNodeTold P k (kernel_in kernels n)) one
      (left.nodes (n.0 - 1) (kernel_in kernels n)
      (at-place kernels (n.0 - 1) (empty_node n) less))

  told-at : (side : Side) → IsNodeTold P (home side).0 (node side)
  told-at side = node-told (home side) (is-node side).0 (is-node side).1

  short : length P < 4294967295
  short = let few : length P < 4294967294 = left.short in omega arith

  tells : (side : Side) → TellsEnd P l (home side) (node side)
  tells side = record {
    alive = tells-alive P (home side).0 (node side) (told-at side) l;
    names = tells-names P (home side).0 (node side) (told-at side);
    hunts = (told-at side).hunts;
    orderly = legal-orderly shape P left.legal short (home side).0 l;
  }

  counted : (f : Flow) → count_in book.arrived f ≡ counts_left P f
  counted f = λ i. left.tables.arrived i f

  -- what is known at them
  known-is : (to : Side) → known_at book kernels l to
      ≡ known_left P (node to) (home to) (home (other_of to)) l to book.arrived
  known-is to = λ i. record {
    node = node to;
    at = home to;
    other = home (other_of to);
    link = l;
    here = side-is to i;
    there = side-is (other_of to) i;
    marks = left.tables.marks i;
    sent = left.tables.sent i;
    arrived = book.arrived;
  }

  -- PACKETS that come to a side
  bring-told : (to : Side) (es : List Effect) → may_bring (known_at book kernels l to) es ≡ true
      → MayCome P (node_at shape l to) (node_at shape l (other_of to)) l es
  bring-told to es is =
      subst (λ (n : ℕ). MayCome P n (node_at shape l (other_of to)) l es) (sym (node-is to))
      (subst (λ (m : ℕ). MayCome P (home to).0 m l es) (sym (node-is (other_of to)))
      (told-may P (node to) (home to) (home (other_of to)) l to book.arrived counted left.short
      (tells to).alive (tells to).orderly es
      (sym (ap (λ (d : Known). may_bring d es) (known-is to)) ∙ is)))

  told-bring : (to : Side) (es : List Effect)
      → MayCome P (node_at shape l to) (node_at shape l (other_of to)) l es
      → may_bring (known_at book kernels l to) es ≡ true
  told-bring to es may =
      ap (λ (d : Known). may_bring d es) (known-is to)
      ∙ may-told P (node to) (home to) (home (other_of to)) l to book.arrived counted left.short
      (tells to).alive (tells to).orderly es
      (subst (λ (m : ℕ). MayCome P (home to).0 m l es) (node-is (other_of to))
      (subst (λ (n : ℕ). MayCome P n (node_at shape l (other_of to)) l es) (node-is to) may))

  pub pass-told : (b : Bool) (from : Side) (es : List Effect)
      → may_pass_if b (known_at book kernels l (other_of from)) es ≡ true
      → MayComeIf b P (node_at shape l (other_of from)) (node_at shape l from) l es
  pass-told true First es is = bring-told Second es is
  pass-told true Second es is = bring-told First es is
  pass-told false from es is = none-is es is

  pub told-pass : (b : Bool) (from : Side) (es : List Effect)
      → MayComeIf b P (node_at shape l (other_of from)) (node_at shape l from) l es
      → may_pass_if b (known_at book kernels l (other_of from)) es ≡ true
  told-pass true First es may = told-bring Second es may
  told-pass true Second es may = told-bring First es may
  told-pass false from es none = ap are_none none

  -- TICKS of a side
  pub tick-told : (side : Side) (es : List Effect)
      → may_lose (side_in (line_in book l) side) es ≡ true
      → IsSomeAnd (brought_by es) (MayLose P (node_at shape l side) l side)
  tick-told side es is =
      subst (λ (n : ℕ). MayTell P n l side es) (sym (node-is side))
      (lose-told P (home side).0 l side es
      (sym (ap (λ (t : SideSoFar). may_lose t es) (side-is side)) ∙ is))

  pub told-tick : (side : Side) (es : List Effect)
      → IsSomeAnd (brought_by es) (MayLose P (node_at shape l side) l side)
      → may_lose (side_in (line_in book l) side) es ≡ true
  told-tick side es may =
      ap (λ (t : SideSoFar). may_lose t es) (side-is side)
      ∙ told-lose P (home side).0 l side es
      (subst (λ (n : ℕ). MayTell P n l side es) (node-is side) may)

  -- REST
  abbrev left_ends : Ends
  left_ends = record {
    first = known_left P (node First) (home First) (home Second) l First book.arrived;
    second = known_left P (node Second) (home Second) (home First) l Second book.arrived;
    cut = is_cut P l.0;
  }

  ends-are : ends_of book kernels l ≡ left_ends
  ends-are = λ i. record { first = known-is First i; second = known-is Second i; cut = cut-is i }

  stirred-is : (line_in book l).stirred ≡ stirred_left P l.0 ends
  stirred-is = ap (λ (line : LineSoFar). line.stirred) line-is

  of-shape : IsLinkOf shape l
  of-shape = (
    there.above,
    subst (λ (k : ℕ). l.0 ≤ k) (ap (λ (links : List LinkDecl). length links) left.tables.links)
        there.within,
  )

  by-is : is_still_at book kernels l ≡ is_still_by left_ends (stirred_left P l.0 ends)
  by-is = λ i. is_still_by (ends-are i) (stirred-is i)

  by-told : (o : Option (List Stir)) → stirred_left P l.0 ends ≡ o
      → is_still_by left_ends o ≡ true → IsStill shape P l
  by-told None known is =
      still-told shape P l (node First) (node Second) (home First) (home Second) book.arrived counted
      left.short (node-is First) (node-is Second) (tells First) (tells Second) is
  by-told (Some stirs) known is =
      settled-still shape P l (node First) (node Second) (home First) (home Second) book.arrived
      counted left.short (node-is First) (node-is Second) (tells First) (tells Second) stirs
      (stirred-but shape l ends linked of-shape P left.legal short stirs known) is

  told-by : (o : Option (List Stir)) → IsStill shape P l → is_still_by left_ends o ≡ true
  told-by None still =
      told-still shape P l (node First) (node Second) (home First) (home Second) book.arrived
      counted left.short (node-is First) (node-is Second) (tells First) (tells Second) still
  told-by (Some stirs) still =
      still-settled shape P l (node First) (node Second) (home First) (home Second) book.arrived
      counted left.short (node-is First) (node-is Second) (tells First) (tells Second) stirs still

  pub rest-told : is_still_at book kernels l ≡ true → IsStill shape P l
  rest-told is = by-told (stirred_left P l.0 ends) refl (sym by-is ∙ is)

  pub told-rest : IsStill shape P l → is_still_at book kernels l ≡ true
  told-rest still = by-is ∙ told-by (stirred_left P l.0 ends) still
