-- Where a packet comes, or a tick is felt: the kernel and the line that stand there.
use Rattle.std.proofs.Common.{◌≡◌, ℕ, suc, ◌<◌, ◌≤◌, List, length, get_or, sym, ◌∙◌, ap, subst}
use Rattle.std.proofs.Common.{arith, ◌-◌}
use Rattle.linx_base.specs.declared.identity.LinkNo.{LinkNo}
use Rattle.linx_base.specs.declared.identity.Session.{Session}
use Rattle.linx_base.specs.declared.identity.Side.{Side}
use Rattle.linx_base.specs.declared.identity.Side.TheVariants.{First, Second}
use Rattle.journal.specs.declared.effect.Step.{Step}
use Rattle.journal.specs.Logs.{step_limit}
use Rattle.node_kernel.specs.Nodes.{NodeState}
use Rattle.link_laws.specs.Ends.{IsLinkOf, node_at}
use Rattle.run_trunks.specs.States.{TrunksState, trunks_of}
use Rattle.run_numbers.specs.Laws.{GrantsNumbers}
use Rattle.trunk.specs.Events.{TrunkState, kept_of}
use Rattle.fabric.specs.declared.bringing.At.{At}
use Rattle.fabric.specs.declared.line.Line.{Line}
use Rattle.fabric.specs.Bringings.{IsThere}
use Rattle.fabric.specs.Links.{line_left}
use Rattle.fabric.specs.Remains.{IsKept, Parts, node_left}
use Rattle.fabric.specs.Run.{Layout}
use Rattle.fabric.proofs.Trunks.Lines.{ticks-few, wires-few}
use Rattle.fabric.proofs.Methods.StepsOnLinks.{end-is}
use Rattle.fabric.proofs.Standings.KernelAndStanding.{get-is}
use Rattle.fabric.proofs.Methods.Runs.{grants-numbers}

module _ {f : Layout} {parts : Parts} (kept : IsKept f parts) (l : LinkNo)
    (of_shape : IsLinkOf f.shape l) where
  -- its line stands there
  pub line-there : l.0 - 1 < length parts.lines
  line-there = omega (arith, of_shape.0, of_shape.1, kept.counted.lines)

  pub line-is : (line : Line) → line ≡ get_or parts.lines (l.0 - 1) line
      → line ≡ line_left f.log.steps l.0
  line-is line is =
      let above : 0 < l.0 = of_shape.0 in
      let back : suc (l.0 - 1) ≡ l.0 = omega arith in
      is ∙ get-is parts.lines (l.0 - 1) line (line_left f.log.steps (suc (l.0 - 1)))
      (kept.left.lines (l.0 - 1) line-there)
      ∙ ap (line_left f.log.steps) back

  -- and has room for one more packet, and for one more tick
  pub line-room : length f.log.steps < step_limit → (line : Line)
      → line ≡ get_or parts.lines (l.0 - 1) line
      → (line.from_first < step_limit) × (line.from_second < step_limit)
      × (line.ticks < step_limit)
  line-room room line is =
      let P : List Step = f.log.steps in
      subst (λ (x : Line). (x.from_first < step_limit) × (x.from_second < step_limit)
      × (x.ticks < step_limit)) (sym (line-is line is)) (
        omega (arith, wires-few P l.0 First, room),
        omega (arith, wires-few P l.0 Second, room),
        omega (arith, ticks-few P l.0, room),
      )

  module _ {side : Side} {at : At} (there : IsThere f l side at) where
    -- its node's kernel stands there
    pub above-there : 0 < at.node.0
    above-there =
        subst (λ (n : ℕ). 0 < n) (sym there.node)
        (end-is (length f.log.names.nodes) f.shape kept.laid_out l of_shape side).0

    pub kernel-there : at.node.0 - 1 < length parts.kernels
    kernel-there =
        let within : at.node.0 ≤ length f.log.names.nodes =
        subst (λ (n : ℕ). n ≤ length f.log.names.nodes) (sym there.node)
        (end-is (length f.log.names.nodes) f.shape kept.laid_out l of_shape side).1 in
        omega (arith, above-there, within, kept.counted.kernels)

    pub back-there : suc (at.node.0 - 1) ≡ at.node.0
    back-there = let above : 0 < at.node.0 = above-there in omega arith

    pub kernel-at : (kernel : NodeState) → kernel ≡ get_or parts.kernels (at.node.0 - 1) kernel
        → kernel ≡ node_left f.log.steps at.node
    kernel-at kernel is =
        is ∙ get-is parts.kernels (at.node.0 - 1) kernel
        (node_left f.log.steps (record { 0 = suc (at.node.0 - 1) }))
        (kept.left.kernels (at.node.0 - 1) kernel-there)
        ∙ ap (λ (n : ℕ). node_left f.log.steps (record { 0 = n })) back-there

    -- which is that of the node
    pub node-at : (kernel : NodeState) → kernel ≡ get_or parts.kernels (at.node.0 - 1) kernel
        → at.node ≡ kernel.node
    node-at kernel is = ap (λ (k : NodeState). k.node) (sym (kernel-at kernel is))

  -- its side has numbers left
  pub numbers-there : length f.log.steps < step_limit → {side : Side} {at : At}
      → IsThere f l side at → (s : TrunksState) → s.is ≡ f.trunks
      → GrantsNumbers at.side (trunks_of s.is at.link.0)
  numbers-there room {side = side} {at = at} there s same =
      subst (λ (ts : List TrunkState). GrantsNumbers at.side (trunks_of ts at.link.0)) (sym same)
      (subst (λ (k : LinkNo). GrantsNumbers at.side (trunks_of f.trunks k.0)) (sym there.link)
      (subst (λ (s : Side). GrantsNumbers s (trunks_of f.trunks l.0)) (sym there.side_is)
      (grants-numbers f parts kept room l of_shape side)))

-- where it comes, by its parts
pub there-by : (f : Layout) (l : LinkNo) (side : Side) (at : At) → IsThere f l side at
    → at ≡ record {
      node = record { 0 = node_at f.shape l side };
      link = l;
      side = side;
      session = (kept_of side (trunks_of f.trunks l.0)).now.session;
    }
there-by f l side at there =
    let make : ℕ → LinkNo → Side → Session → At = λ n m s x.
    record { node = record { 0 = n }; link = m; side = s; session = x } in
    ap (λ (n : ℕ). make n at.link at.side at.session) there.node
    ∙ ap (λ (m : LinkNo). make (node_at f.shape l side) m at.side at.session) there.link
    ∙ ap (λ (s : Side). make (node_at f.shape l side) l s at.session) there.side_is
    ∙ ap (λ (x : Session). make (node_at f.shape l side) l side x) there.session
