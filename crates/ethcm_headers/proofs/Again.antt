-- The fields of spelled headers are those that were spelled.
use Rattle.std.proofs.Common.{◌≡◌, ℕ, ◌^◌, ◌<◌, ◌≤◌, Bool, true, false, ltb, List, ◌++◌, length}
use Rattle.std.proofs.Common.{Some, refl, arith, ◌==◌, le-ltb, length-append}
use Rattle.byteorder.specs.Endian.{big_bytes}
use Rattle.byteorder.specs.Numbers.{big_number-reads_back}
use Rattle.linx_base.specs.declared.frame.ConnKind.TheVariants as kinds
use Rattle.ethcm_headers.specs.declared.chains.Chain.{Chain}
use Rattle.ethcm_headers.specs.declared.chains.Chain.TheVariants.{Conn, Ack, Nack, First, Next}
use Rattle.ethcm_headers.specs.declared.chains.Headers.{Headers}
use Rattle.ethcm_headers.specs.Headers.{main_header, conn_header, ack_header, nack_header}
use Rattle.ethcm_headers.specs.Headers.{udata_header, frag_header, more_byte}
use Rattle.ethcm_headers.specs.Chains.{number_at, chain_bytes, header_bytes, fields_at, layout_at}
use Rattle.ethcm_headers.specs.Chains.{layout_of, chain_at, headers_at, FitsChain, FitsHeaders}
use Rattle.ethcm_headers.specs.Chains.{length_of}

more_again : (more : Bool) → (more_byte more == 1) ≡ more
more_again true = refl
more_again false = refl

MAIN_least : (chain : Chain) → 24 ≤ length_of chain
MAIN_least (Conn kind) = omega arith
MAIN_least _ = omega arith

-- MAIN, and what stands behind it
record BeginsWithMain (l src dst : ℕ) (bytes : List ℕ) : Type 0 where
  next : ℕ
  behind : List ℕ
  spelled : bytes ≡ main_header next l src dst ++ behind

module _ (l src dst : ℕ) where
  pub length-chain_bytes : (chain : Chain) → length (chain_bytes l src dst chain) ≡ length_of chain
  unfolding chain_bytes main_header conn_header ack_header nack_header udata_header frag_header
  length-chain_bytes (Conn kind) = refl
  length-chain_bytes _ = refl

  -- what a packet of these headers has at least
  long_enough : (chain : Chain) (payload : List ℕ) (n : ℕ) → n ≤ length_of chain
      → ltb (length (chain_bytes l src dst chain ++ payload)) n ≡ false
  long_enough chain payload n le =
      le-ltb _ _ (omega (
        arith,
        length-append (chain_bytes l src dst chain) payload,
        length-chain_bytes chain,
      ))

  -- headers that were spelled are found by their types, whatever stands behind them
  layout_again : (chain : Chain) (rest : List ℕ)
      → layout_at (chain_bytes l src dst chain ++ rest) ≡ Some (layout_of chain)
  unfolding layout_at chain_bytes main_header conn_header ack_header nack_header udata_header
      frag_header
  layout_again (Conn kind) rest = refl
  layout_again _ rest = refl

  -- and so are their fields
  fields_again : (chain : Chain) (rest : List ℕ) → FitsChain chain
      → fields_at (layout_of chain) (chain_bytes l src dst chain ++ rest) ≡ Some chain
  unfolding fields_at number_at chain_bytes main_header conn_header ack_header nack_header
      udata_header frag_header
  fields_again (Conn kinds.Connect) rest fits = refl
  fields_again (Conn kinds.ConnectAck) rest fits = refl
  fields_again (Conn kinds.Ack) rest fits = refl
  fields_again (Conn kinds.Reset) rest fits = refl
  fields_again (Ack next) rest fits = rw (big_number-reads_back 4 next rest fits) refl
  fields_again (Nack next count) rest fits =
      rw (
        big_number-reads_back 4 next rest fits.0,
        big_number-reads_back 2 count (big_bytes 4 next ++ rest) fits.1,
      ) refl
  fields_again (First next seq more from to size) rest fits =
      rw (
        big_number-reads_back 4 next (udata_header more seq from to size ++ rest) fits.0,
        big_number-reads_back 4 seq
            (big_bytes 4 from ++ (big_bytes 4 to ++ (big_bytes 4 size ++ rest))) fits.1,
        big_number-reads_back 4 from (big_bytes 4 to ++ (big_bytes 4 size ++ rest)) fits.2,
        big_number-reads_back 4 to (big_bytes 4 size ++ rest) fits.3,
        big_number-reads_back 4 size rest fits.4,
        more_again more,
      ) refl
  fields_again (Next next seq more) rest fits =
      rw (
        big_number-reads_back 4 next (frag_header more seq ++ rest) fits.0,
        big_number-reads_back 4 seq rest fits.1,
        more_again more,
      ) refl

  pub chain_again : (chain : Chain) (rest : List ℕ) → FitsChain chain
      → chain_at (chain_bytes l src dst chain ++ rest) ≡ Some chain
  chain_again chain rest fits =
      rw (layout_again chain rest, long_enough chain rest (length_of chain) (omega arith))
      (fields_again chain rest fits)

  main_first : (chain : Chain) (rest : List ℕ)
      → BeginsWithMain l src dst (chain_bytes l src dst chain ++ rest)
  unfolding chain_bytes main_header
  main_first (Conn kind) rest =
      record { next = 2; behind = conn_header kind ++ rest; spelled = refl }
  main_first (Ack next) rest =
      record { next = 5; behind = ack_header 0 next ++ rest; spelled = refl }
  main_first (Nack next count) rest =
      record { next = 6; behind = nack_header next count ++ rest; spelled = refl }
  main_first (First next seq more from to size) rest =
      record {
        next = 5;
        behind = (ack_header 3 next ++ udata_header more seq from to size) ++ rest;
        spelled = refl;
      }
  main_first (Next next seq more) rest =
      record {
        next = 5;
        behind = (ack_header 4 next ++ frag_header more seq) ++ rest;
        spelled = refl;
      }

  main_src : (next : ℕ) (rest : List ℕ) → src < 2 ^ 64
      → number_at 8 4 (main_header next l src dst ++ rest) ≡ src
  unfolding number_at main_header
  main_src next rest lt = big_number-reads_back 8 src (big_bytes 8 dst ++ rest) lt

  main_dst : (next : ℕ) (rest : List ℕ) → dst < 2 ^ 64
      → number_at 8 12 (main_header next l src dst ++ rest) ≡ dst
  unfolding number_at main_header
  main_dst next rest lt = big_number-reads_back 8 dst rest lt

  -- the sessions that were spelled are found again
  src_again : (chain : Chain) (rest : List ℕ) → src < 2 ^ 64
      → number_at 8 4 (chain_bytes l src dst chain ++ rest) ≡ src
  src_again chain rest lt =
      let m = main_first chain rest in rw m.spelled (main_src m.next m.behind lt)

  dst_again : (chain : Chain) (rest : List ℕ) → dst < 2 ^ 64
      → number_at 8 12 (chain_bytes l src dst chain ++ rest) ≡ dst
  dst_again chain rest lt =
      let m = main_first chain rest in rw m.spelled (main_dst m.next m.behind lt)

-- the headers that were spelled are found again, whatever stands behind them
pub headers_again : (l : ℕ) (headers : Headers) (rest : List ℕ) → FitsHeaders headers
    → headers_at (header_bytes l headers ++ rest) ≡ Some headers
unfolding headers_at
headers_again l headers rest fits =
    rw (
      long_enough l headers.src headers.dst headers.chain rest 24 (MAIN_least headers.chain),
      chain_again l headers.src headers.dst headers.chain rest fits.2,
      src_again l headers.src headers.dst headers.chain rest fits.0,
      dst_again l headers.src headers.dst headers.chain rest fits.1,
    ) refl
