-- the actors fit the script, and stay within its limits
use Rattle.std.proofs.Common.{◌≡◌, ℕ, suc, zero, ◌+◌, ◌-◌, ◌*◌, ◌%◌, ◌<◌, ◌≤◌, true, List, [], ◌∷◌}
use Rattle.std.proofs.Common.{◌++◌, length, map, refl, ◌∙◌, ap, sym, arith, length-append}
use Rattle.std.proofs.Common.{append_assoc, codes, flat_map, le-leb}
use Rattle.std.specs.List.{list_all, range_with_len}
use Rattle.std.proofs.lemmas.Bool.{and_from}
use Rattle.std.proofs.lemmas.List.{length-replicate}
use Rattle.std.proofs.lemmas.List.Folds.{list_all-append}
use Rattle.std.proofs.lemmas.List.Sums.{sum_by-cons, sum_by-append}
use Rattle.std.proofs.lemmas.List.FromFn.{map-range_with_len_more, length-map-range_with_len}
use Rattle.linx_base.specs.Content.{data_limit}
use Rattle.linx_base.specs.declared.identity.NodeNo.{NodeNo}
use Rattle.script_words.specs.declared.command.Command.{Command}
use Rattle.script_words.specs.declared.command.Command.TheVariants.{Send}
use Rattle.script_words.specs.declared.target.Target.TheVariants.{Last, Kept}
use Rattle.script_words.specs.Filling.{fits_data, no_data}
use Rattle.script_lang.specs.declared.actor_script.ActorScript.{ActorScript}
use Rattle.script_lang.specs.Parts.{ScriptParts}
use Rattle.script_lang.specs.Fits.{is_node, has_end, fits_command, command_count}
use Rattle.script_lang.specs.Copies.{copies}
use Rattle.script_lang.proofs.Copies.{length-copies, list_all-copies}
use Rattle.work_gen.specs.Generated.{up_to, receive}
use Rattle.work_gen.specs.Generated.{server_commands, finding, request, asking, leaving, server}
use Rattle.work_gen.specs.Generated.{client_commands, client, clients, actors_over, built}
use Rattle.work_gen.specs.Building.{with_actors, many_commands, HasRoom}
use Rattle.work_gen.proofs.Lists.{flat_map_more}

-- ---- what the actors do

answers : List Command
answers = receive 10 ∷ Send Last 11 no_data ∷ []

requests : ℕ → ℕ → List Command
requests n i = Send (Kept (codes "s")) 10 (request n i) ∷ receive 11 ∷ []

-- a request has fewer than 4,001 bytes
request_fits : (n i : ℕ) → fits_data data_limit (request n i) ≡ true
request_fits n i =
    let size = (97 * n + 131 * i) % 4001 in
    let small : size ≤ data_limit = omega arith in
    rw (length-replicate size (i % 256)) (le-leb size data_limit small)

module _ (s : ScriptParts) (node : NodeNo) where
  pub server_fits : (k : ℕ) → list_all (fits_command s node) (server_commands k) ≡ true
  unfolding server_commands answers
  server_fits k =
      let fits = fits_command s node in
      list_all-append fits (copies 800 answers) (copies 8 (receive 12 ∷ []))
      ∙ and_from _ _ (list_all-copies fits 800 answers refl)
      (list_all-copies fits 8 (receive 12 ∷ []) refl)

  finding_fits : (k i : ℕ) → has_end s (record { 0 = k }) node ≡ true
      → list_all (fits_command s node) (finding k i) ≡ true
  unfolding finding
  finding_fits k i ends = and_from _ _ (and_from _ _ ends refl) refl

  asking_fits : (n i : ℕ) → list_all (fits_command s node) (asking n i) ≡ true
  unfolding asking requests
  asking_fits n i =
      list_all-copies (fits_command s node) 100 (requests n i)
      (and_from _ _ (request_fits n i) refl)

  leaving_fits : list_all (fits_command s node) leaving ≡ true
  unfolding leaving
  leaving_fits = refl

  pub client_fits : (n k i : ℕ) → has_end s (record { 0 = k }) node ≡ true
      → list_all (fits_command s node) (client_commands n k i) ≡ true
  client_fits n k i ends =
      let fits = fits_command s node in
      list_all-append fits (finding k i) (asking n i ++ leaving)
      ∙ and_from _ _ (finding_fits k i ends)
      (list_all-append fits (asking n i) leaving ∙ and_from _ _ (asking_fits n i) leaving_fits)

pub server_few : (k : ℕ) → length (server_commands k) ≤ many_commands
unfolding server_commands answers
server_few k =
    let both = length-append (copies 800 answers) (copies 8 (receive 12 ∷ [])) in
    omega (arith, both, length-copies 800 answers, length-copies 8 (receive 12 ∷ []))

asking_few : (n i : ℕ) → length (asking n i) ≡ 200
unfolding asking requests
asking_few n i = length-copies 100 (requests n i)

finding_few : (k i : ℕ) → length (finding k i) ≡ 5
unfolding finding
finding_few k i = refl

leaving_few : length leaving ≡ 2
unfolding leaving
leaving_few = refl

pub client_few : (n k i : ℕ) → length (client_commands n k i) ≤ many_commands
client_few n k i =
    omega (
      arith,
      length-append (finding k i) (asking n i ++ leaving),
      length-append (asking n i) leaving,
      finding_few k i,
      asking_few n i,
      leaving_few,
    )

-- ---- how many actors there are, and how many commands

clients_few : (n k first count : ℕ)
    → command_count (map (client n k) (range_with_len first count)) ≤ many_commands * count
clients_few n k first zero = omega arith
clients_few n k first (suc count) =
    omega (
      arith,
      client_few n k first,
      clients_few n k (first + 1) count,
      sum_by-cons (λ (a : ActorScript). length a.commands) (client n k first)
          (map (client n k) (range_with_len (first + 1) count)),
    )

-- one actor more
pub one_placed : (s : ScriptParts) (a : ActorScript) (more : ℕ)
    → length a.commands ≤ many_commands → HasRoom s (more + 1)
    → HasRoom (with_actors s (a ∷ [])) more
one_placed s a more few h = record {
  actors = omega (arith, h.actors, length-append s.actors (a ∷ []));
  commands =
      omega (
        arith,
        few,
        h.commands,
        sum_by-append (λ (b : ActorScript). length b.commands) s.actors (a ∷ []),
      );
}

-- so many clients more
pub clients_placed : (s : ScriptParts) (n k first count more : ℕ) → HasRoom s (count + more)
    → HasRoom (with_actors s (map (client n k) (range_with_len first count))) more
clients_placed s n k first count more h =
    let added = map (client n k) (range_with_len first count) in
    record {
      actors =
          omega (
            arith,
            h.actors,
            length-append s.actors added,
            length-map-range_with_len (client n k) first count,
          );
      commands =
          omega (
            arith,
            h.commands,
            clients_few n k first count,
            sum_by-append (λ (b : ActorScript). length b.commands) s.actors added,
          );
    }

pub fewer_placed : (s : ScriptParts) (more fewer : ℕ) → fewer ≤ more → HasRoom s more
    → HasRoom s fewer
fewer_placed s more fewer less h =
    record { actors = omega (arith, h.actors); commands = omega (arith, h.commands) }

-- one client more behind those so far
pub client_added : (s t u : ScriptParts) (n k first done : ℕ)
    → t ≡ with_actors s (map (client n k) (range_with_len first done))
    → u ≡ with_actors t (client n k (first + done) ∷ [])
    → u ≡ with_actors s (map (client n k) (range_with_len first (done + 1)))
client_added s t u n k first done so_far one =
    let added = map (client n k) (range_with_len first done) in
    one
    ∙ ap (λ (v : ScriptParts). with_actors v (client n k (first + done) ∷ [])) so_far
    ∙ ap (λ (actors : List ActorScript). record s { actors = actors })
    (append_assoc s.actors added (client n k (first + done) ∷ [])
    ∙ ap (λ (more : List ActorScript). s.actors ++ more)
    (sym (map-range_with_len_more (client n k) first done (first + done) refl)))

-- ---- the actors over the links so far

over_count : (n k : ℕ) → length (actors_over n k) ≡ 9
unfolding actors_over
over_count n k = refl

over_few : (n k : ℕ) → command_count (actors_over n k) ≤ 18000
unfolding actors_over
over_few n k =
    omega (
      arith,
      server_few k,
      clients_few n k (8 * (k - 1) + 1) 8,
      sum_by-cons (λ (a : ActorScript). length a.commands) (server k) (clients n k),
    )

peopled_count : (n from count : ℕ)
    → length (flat_map (actors_over n) (range_with_len from count)) ≡ 9 * count
peopled_count n from zero = omega arith
peopled_count n from (suc count) =
    let rest = flat_map (actors_over n) (range_with_len (from + 1) count) in
    omega (
      arith,
      over_count n from,
      peopled_count n (from + 1) count,
      length-append (actors_over n from) rest,
    )

peopled_few : (n from count : ℕ)
    → command_count (flat_map (actors_over n) (range_with_len from count)) ≤ 18000 * count
peopled_few n from zero = omega arith
peopled_few n from (suc count) =
    let rest = flat_map (actors_over n) (range_with_len (from + 1) count) in
    omega (
      arith,
      over_few n from,
      peopled_few n (from + 1) count,
      sum_by-append (λ (a : ActorScript). length a.commands) (actors_over n from) rest,
    )

module _ (n done : ℕ) (few : done < 3) where
  -- a server and eight clients more
  pub peopled_room : HasRoom (built n 4 3 done) 9
  unfolding built
  peopled_room = record {
    actors = omega (arith, few, peopled_count n 1 done);
    commands = omega (arith, few, peopled_few n 1 done);
  }

pub server_node : (n done : ℕ) → done < 3
    → is_node (built n 4 3 done) (record { 0 = done + 1 + 1 }) ≡ true
unfolding built
server_node n zero few = refl
server_node n (suc zero) few = refl
server_node n (suc (suc zero)) few = refl
server_node n (suc (suc (suc done))) few = absurd (omega arith)

pub client_node : (n done : ℕ) (actors : List ActorScript) → done < 3
    → is_node (with_actors (built n 4 3 done) actors) (record { 0 = done + 1 }) ≡ true
unfolding built
client_node n zero actors few = refl
client_node n (suc zero) actors few = refl
client_node n (suc (suc zero)) actors few = refl
client_node n (suc (suc (suc done))) actors few = absurd (omega arith)

pub client_end : (n done : ℕ) (actors : List ActorScript) → done < 3
    → has_end (with_actors (built n 4 3 done) actors) (record { 0 = done + 1 })
    (record { 0 = done + 1 })
    ≡ true
unfolding built
client_end n zero actors few = refl
client_end n (suc zero) actors few = refl
client_end n (suc (suc zero)) actors few = refl
client_end n (suc (suc (suc done))) actors few = absurd (omega arith)

-- the actors over one link more
pub peopled : (n done : ℕ) (s t u : ScriptParts) → s ≡ built n 4 3 done
    → t ≡ with_actors s (server (done + 1) ∷ []) → u ≡ with_actors t (clients n (done + 1))
    → u ≡ built n 4 3 (done + 1)
unfolding built actors_over
peopled n done s t u so_far served asked =
    let before : List ActorScript = flat_map (actors_over n) (up_to done) in
    asked
    ∙ ap (λ (v : ScriptParts). with_actors v (clients n (done + 1))) served
    ∙ ap (λ (v : ScriptParts). with_actors (with_actors v (server (done + 1) ∷ []))
    (clients n (done + 1))) so_far
    ∙ ap (λ (actors : List ActorScript). record (built n 4 3 done) { actors = actors })
    (append_assoc before (server (done + 1) ∷ []) (clients n (done + 1))
    ∙ sym (flat_map_more (actors_over n) done))
