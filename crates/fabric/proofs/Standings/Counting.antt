-- What holds of the first so many, and fails at one of them.
use Rattle.std.proofs.Common.{◌≡◌, ◌≢◌, ℕ, zero, suc, ◌<◌, ◌≤◌, Bool, true, false, ◌&&◌, List, []}
use Rattle.std.proofs.Common.{◌∷◌, ◌++◌, length, map, take, drop, replicate, Some, get_or, set}
use Rattle.std.proofs.Common.{refl, sym, ◌∙◌, ap, subst, arith, ◌==◌, slice_get, eq-eqb, eqb-true}
use Rattle.std.proofs.Common.{true≢false}
use Rattle.std.specs.List.{AllByRecursion}
use Rattle.linx_base.specs.declared.frame.LinkDecl.{LinkDecl}
use Rattle.linx_base.specs.declared.name.Names.{Names}
use Rattle.journal.specs.Logs.{Log, step_limit}
use Rattle.journal.specs.Shapes.{Shape}
use Rattle.journal.specs.declared.effect.Step.{Step}
use Rattle.journal.proofs.Steps.{slice_get-push}
use Rattle.node_kernel.specs.Nodes.{NodeState, empty_node}
use Rattle.run_trunks.specs.States.{AllFit, new_trunks, trunks_of}
use Rattle.run_trunks.proofs.Numbered.{all-new}
use Rattle.trunk.specs.Events.{TrunkState, new_trunk}
use Rattle.fabric.specs.declared.line.Line.{Line}
use Rattle.fabric.specs.declared.standing.Standing.{Standing}
use Rattle.fabric.specs.Lines.{fresh_line}
use Rattle.fabric.specs.Remains.{AreBootsLeft, AreLeft, AreLinesLeft, AreNodesLeft}
use Rattle.fabric.specs.Remains.{AreStandingsLeft, IsKept, IsLaidOut, IsLink, Parts, node_left}
use Rattle.fabric.specs.Run.{AreFirst, IsReached, Layout}
use Rattle.fabric.specs.Standings.{empty_nodes, fresh}

-- a test of all below a number that fails at one, fails at each greater one
pub fails-on : (f g : ℕ → Bool) → ((n : ℕ) → f (suc n) ≡ (f n && g n)) → (m n : ℕ) → f m ≡ false
    → m ≤ n → f n ≡ false
fails-on f g step m zero fails low = let same : m ≡ 0 = omega arith in subst
    (λ (x : ℕ). f x ≡ false) same fails
fails-on f g step m (suc n) fails low = go (λ before. fails-on f g step m n fails before)
    (m == suc n) refl
  where
    go : (m ≤ n → f n ≡ false) → (b : Bool) → (m == suc n) ≡ b → f (suc n) ≡ false
    go before true e = let same : m ≡ suc n = eqb-true m (suc n) e in subst
        (λ (x : ℕ). f x ≡ false) same fails
    go before false e =
        let other : m ≢ suc n = λ same. true≢false (sym (eq-eqb m (suc n) same) ∙ e) in
        step n ∙ ap (λ b. b && g n) (before (omega (arith, other)))

-- one more element is changed
pub map-turn : {X : Type 0} (f : X → X) (xs : List X) (k : ℕ) (x : X) → k < length xs
    → x ≡ get_or (map f (take k xs) ++ drop k xs) k x
    → set (map f (take k xs) ++ drop k xs) k (f x) ≡ map f (take (suc k) xs) ++ drop (suc k) xs
map-turn f [] k x within is = absurd (omega arith)
map-turn f (y ∷ xs) zero x within is = ap (λ z. f z ∷ xs) is
map-turn f (y ∷ xs) (suc k) x within is = ap (λ l. f y ∷ l) (map-turn f xs k x (omega arith) is)

-- what stands before, of its own length
pub take-front : {X : Type 0} (xs ys : List X) (n : ℕ) → length xs ≡ n → take n (xs ++ ys) ≡ xs
take-front [] ys zero is = refl
take-front [] ys (suc n) is = absurd (omega arith)
take-front (x ∷ xs) ys zero is = absurd (omega arith)
take-front (x ∷ xs) ys (suc n) is = ap (λ l. x ∷ l) (take-front xs ys n (omega arith))

-- THE FIRST NODES AND ACTORS
pub length-empty_nodes : (n : ℕ) → length (empty_nodes n) ≡ n
length-empty_nodes zero = refl
length-empty_nodes (suc n) = length-push (empty_nodes n) (empty_node (record { 0 = suc n }))
    ∙ ap suc (length-empty_nodes n)
  where
    length-push : (xs : List NodeState) (x : NodeState) → length (xs ++ x ∷ []) ≡ suc (length xs)
    length-push [] x = refl
    length-push (y ∷ xs) x = ap suc (length-push xs x)

pub nodes-left : (n : ℕ) → AreNodesLeft [] (empty_nodes n)
nodes-left zero m under = absurd (omega arith)
nodes-left (suc n) m under = go (λ before. nodes-left n m before) (m == length (empty_nodes n)) refl
  where
    go : (m < length (empty_nodes n)
        → slice_get (empty_nodes n) m ≡ Some (node_left [] (record { 0 = suc m })))
        → (b : Bool) → (m == length (empty_nodes n)) ≡ b
        → slice_get (empty_nodes n ++ empty_node (record { 0 = suc n }) ∷ []) m ≡ Some
        (node_left [] (record { 0 = suc m }))
    go before true e =
        let same : m ≡ n = eqb-true m (length (empty_nodes n)) e ∙ length-empty_nodes n in
        rw (slice_get-push (empty_nodes n) (empty_node (record { 0 = suc n })) m, e)
        (ap (λ (k : ℕ). Some (empty_node (record { 0 = suc k }))) (sym same))
    go before false e =
        let other : m ≢ length (empty_nodes n) = λ same. true≢false
        (sym (eq-eqb m (length (empty_nodes n)) same) ∙ e) in
        rw (slice_get-push (empty_nodes n) (empty_node (record { 0 = suc n })) m, e)
        (before (omega (arith, under, other, length-empty_nodes n, length-empty_nodes (suc n))))

pub standings-left : (n : ℕ) → AreStandingsLeft [] (replicate n fresh)
standings-left zero m under = absurd (omega arith)
standings-left (suc n) zero under = refl
standings-left (suc n) (suc m) under = standings-left n m (omega arith)

pub boots-left : (n : ℕ) → AreBootsLeft [] (replicate n 1)
boots-left zero m under = absurd (omega arith)
boots-left (suc n) zero under = refl
boots-left (suc n) (suc m) under = boots-left n m (omega arith)

pub lines-left : (n : ℕ) → AreLinesLeft [] (replicate n fresh_line)
lines-left zero m under = absurd (omega arith)
lines-left (suc n) zero under = refl
lines-left (suc n) (suc m) under = lines-left n m (omega arith)

length-replicate : {X : Type 0} (x : X) (n : ℕ) → length (replicate n x) ≡ n
length-replicate x zero = refl
length-replicate x (suc n) = ap suc (length-replicate x n)

fit-all : (nodes : ℕ) (links : List LinkDecl) → AllByRecursion (IsLink nodes) links → AllFit links
fit-all nodes [] all = tt
fit-all nodes (link ∷ links) all =
    (record { window = all.0.window; piece = all.0.piece }, fit-all nodes links all.1)

-- all links' trunks are new
pub all-fit : (nodes : ℕ) (shape : Shape) → IsLaidOut nodes shape → AllFit shape.links
all-fit nodes shape laid = fit-all nodes shape.links laid.linked

length-mapped : {X Y : Type 0} (g : X → Y) (xs : List X) → length (map g xs) ≡ length xs
length-mapped g [] = refl
length-mapped g (x ∷ xs) = ap suc (length-mapped g xs)

-- A FABRIC WITHOUT STEPS keeps what it has to
pub kept-new : (f : Layout) (parts : Parts) (names : Names)
    → IsLaidOut (length names.nodes) f.shape → f.log ≡ record { names = names; steps = [] }
    → f.trunks ≡ new_trunks f.shape.links
    → parts.kernels ≡ empty_nodes (length names.nodes)
    → parts.booted ≡ replicate (length names.nodes) 1
    → parts.standings ≡ replicate (length f.shape.actors) fresh
    → parts.lines ≡ replicate (length f.shape.links) fresh_line
    → IsKept f parts
kept-new f parts names laid_out log_is trunks_are kernels_are booted_are standings_are lines_are =
    let nodes : ℕ = length names.nodes in
    let named : length f.log.names.nodes ≡ nodes = ap (λ (l : Log). length l.names.nodes) log_is in
    let steps : f.log.steps ≡ [] = ap (λ (l : Log). l.steps) log_is in
    record {
      laid_out = subst (λ (n : ℕ). IsLaidOut n f.shape) (sym named) laid_out;
      reached =
          subst (λ (P : List Step). IsReached (length f.log.names.nodes) f.shape P
          (trunks_of f.trunks)) (sym steps)
          (subst (λ (ts : List TrunkState). AreFirst f.shape (trunks_of ts)) (sym trunks_are)
          (all-new f.shape (all-fit nodes f.shape laid_out), λ l of_shape. refl));
      counted = record {
        kernels = ap (λ (xs : List NodeState). length xs) kernels_are ∙ length-empty_nodes nodes
            ∙ sym named;
        booted = ap (λ (xs : List ℕ). length xs) booted_are ∙ length-replicate 1 nodes ∙ sym named;
        standings = ap (λ (xs : List Standing). length xs) standings_are
            ∙ length-replicate fresh (length f.shape.actors);
        lines = ap (λ (xs : List Line). length xs) lines_are
            ∙ length-replicate fresh_line (length f.shape.links);
        trunks = ap (λ (xs : List TrunkState). length xs) trunks_are
            ∙ length-mapped (λ (link : LinkDecl). new_trunk link.window link.piece) f.shape.links;
      };
      left =
          subst (λ (P : List Step). AreLeft P parts) (sym steps)
          (record {
            kernels = subst (AreNodesLeft []) (sym kernels_are) (nodes-left nodes);
            booted = subst (AreBootsLeft []) (sym booted_are) (boots-left nodes);
            standings = subst (AreStandingsLeft []) (sym standings_are)
                (standings-left (length f.shape.actors));
            lines = subst (AreLinesLeft []) (sym lines_are) (lines-left (length f.shape.links));
          });
      short = subst (λ (P : List Step). length P ≤ step_limit) (sym steps) (omega arith);
    }
