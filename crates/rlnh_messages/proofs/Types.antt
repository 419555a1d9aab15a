-- The messages of each type.
use Rattle.std.proofs.Common.{◌≡◌, ℕ, ◌<◌, ◌≤◌, ◌^◌, List, [], ◌++◌, drop, refl, sym, ap, ◌∙◌}
use Rattle.std.proofs.Common.{arith, ◌==◌, if◌then◌else◌, slice_index, IsTrue, Option, None, Some}
use Rattle.std.proofs.Common.{Result, Ok, Err, IfOk}
use Rattle.std.proofs.lemmas.Option.{same_Some}
use Rattle.byteorder.specs.Endian.{big_bytes, big_number}
use Rattle.byteorder.specs.Numbers.{big_number-reads_back}
use Rattle.linx_base.specs.NameText.{is_name}
use Rattle.rlnh_messages.specs.declared.rlnh.Rlnh.{Rlnh}
use Rattle.rlnh_messages.specs.declared.rlnh.Rlnh.TheVariants.{Init, InitReply, QueryName, Publish}
use Rattle.rlnh_messages.specs.declared.rlnh.Rlnh.TheVariants.{Unpublish, UnpublishAck}
use Rattle.rlnh_messages.specs.declared.reading.RlnhError.{RlnhError}
use Rattle.rlnh_messages.specs.declared.reading.RlnhError.TheVariants.{Bad, NoMemory}
use Rattle.rlnh_messages.specs.Readings.{IsNameReading, IsRlnhReading}
use Rattle.rlnh_messages.specs.Messages.{typed, spelling_of, IsAddress, Spells}

-- an address, spelled
pub record AddressIn (bytes : List ℕ) : Type 0 where
  pub addr : ℕ
  pub is_address : IsAddress addr
  pub spelled : bytes ≡ big_bytes 4 addr

-- the fields of PUBLISH, spelled
pub record FieldsIn (bytes : List ℕ) : Type 0 where
  pub addr : ℕ
  pub inc : ℕ
  pub name : List ℕ
  pub is_address : IsAddress addr
  pub inc_fits : inc < 2 ^ 64
  pub name_is_name : IsTrue (is_name name)
  pub spelled : bytes ≡ big_bytes 4 addr ++ (big_bytes 8 inc ++ name)

-- ---- what stands behind each type

pub record IsBehind (type : ℕ) (rest : List ℕ) : Type 0 where
  pub is_type : (1 ≤ type) × (type ≤ 6)
  pub version : type ≤ 2 → rest ≡ big_bytes 4 1
  pub name : type ≡ 3 → IsTrue (is_name rest)
  pub fields : type ≡ 4 → FieldsIn rest
  pub address : 5 ≤ type → AddressIn rest

behind_version : (type : ℕ) (rest : List ℕ) → 1 ≤ type → type ≤ 2 → rest ≡ big_bytes 4 1
    → IsBehind type rest
behind_version type rest from to e =
    record {
      is_type = (omega arith, omega arith);
      version = λ h. e;
      name = λ h. absurd (omega arith);
      fields = λ h. absurd (omega arith);
      address = λ h. absurd (omega arith);
    }

behind_name : (type : ℕ) (rest : List ℕ) → type ≡ 3 → IsTrue (is_name rest) → IsBehind type rest
behind_name type rest is name =
    record {
      is_type = (omega arith, omega arith);
      version = λ h. absurd (omega arith);
      name = λ h. name;
      fields = λ h. absurd (omega arith);
      address = λ h. absurd (omega arith);
    }

behind_fields : (type : ℕ) (rest : List ℕ) → type ≡ 4 → FieldsIn rest → IsBehind type rest
behind_fields type rest is fields =
    record {
      is_type = (omega arith, omega arith);
      version = λ h. absurd (omega arith);
      name = λ h. absurd (omega arith);
      fields = λ h. fields;
      address = λ h. absurd (omega arith);
    }

behind_address : (type : ℕ) (rest : List ℕ) → 5 ≤ type → type ≤ 6 → AddressIn rest
    → IsBehind type rest
behind_address type rest from to address =
    record {
      is_type = (omega arith, omega arith);
      version = λ h. absurd (omega arith);
      name = λ h. absurd (omega arith);
      fields = λ h. absurd (omega arith);
      address = λ h. address;
    }

pub behind : (message : Rlnh) (type : ℕ) (rest : List ℕ) → Spells message (typed type rest)
    → IsBehind type rest
unfolding spelling_of
behind Init type rest s =
    let e = s.spelled in let t : type ≡ 1 = cc in
    behind_version type rest (omega arith) (omega arith) cc
behind InitReply type rest s =
    let e = s.spelled in let t : type ≡ 2 = cc in
    behind_version type rest (omega arith) (omega arith) cc
behind (QueryName name) type rest s =
    let e = s.spelled in
    let same : rest ≡ name = cc in
    let is : IsTrue (is_name rest) = rw same s.is_message.fits_fields in
    let t : type ≡ 3 = cc in
    behind_name type rest t is
behind (Publish addr inc name) type rest s =
    let e = s.spelled in
    let t : type ≡ 4 = cc in
    behind_fields type rest t (record {
      addr = addr;
      inc = inc.0;
      name = name;
      is_address = (s.is_message.has_address, s.is_message.fits_fields.0);
      inc_fits = s.is_message.fits_fields.1;
      name_is_name = s.is_message.fits_fields.2;
      spelled = cc;
    })
behind (Unpublish addr) type rest s =
    let e = s.spelled in
    let t : type ≡ 5 = cc in
    behind_address type rest (omega arith) (omega arith)
    (record {
      addr = addr;
      is_address = (s.is_message.has_address, s.is_message.fits_fields);
      spelled = cc;
    })
behind (UnpublishAck addr) type rest s =
    let e = s.spelled in
    let t : type ≡ 6 = cc in
    behind_address type rest (omega arith) (omega arith)
    (record {
      addr = addr;
      is_address = (s.is_message.has_address, s.is_message.fits_fields);
      spelled = cc;
    })

-- a message begins with its type
pub record TypeIn (bytes : List ℕ) : Type 0 where
  pub type : ℕ
  pub rest : List ℕ
  pub spelled : bytes ≡ typed type rest

pub has_type : (message : Rlnh) (bytes : List ℕ) → Spells message bytes → TypeIn bytes
unfolding spelling_of
has_type Init bytes s = record { type = 1; rest = big_bytes 4 1; spelled = s.spelled }
has_type InitReply bytes s = record { type = 2; rest = big_bytes 4 1; spelled = s.spelled }
has_type (QueryName name) bytes s = record { type = 3; rest = name; spelled = s.spelled }
has_type (Publish addr inc name) bytes s =
    record { type = 4; rest = big_bytes 4 addr ++ (big_bytes 8 inc.0 ++ name); spelled = s.spelled }
has_type (Unpublish addr) bytes s =
    record { type = 5; rest = big_bytes 4 addr; spelled = s.spelled }
has_type (UnpublishAck addr) bytes s =
    record { type = 6; rest = big_bytes 4 addr; spelled = s.spelled }

-- ---- what each type makes

pub init_found : (rest : List ℕ) → rest ≡ big_bytes 4 1 → Spells Init (typed 1 rest)
unfolding spelling_of
init_found rest e =
    record { is_message = record { has_address = tt; fits_fields = tt }; spelled = ap (typed 1) e }

pub init_reply_found : (rest : List ℕ) → rest ≡ big_bytes 4 1 → Spells InitReply (typed 2 rest)
unfolding spelling_of
init_reply_found rest e =
    record { is_message = record { has_address = tt; fits_fields = tt }; spelled = ap (typed 2) e }

pub query_found : (name rest : List ℕ) → name ≡ rest → IsTrue (is_name rest)
    → Spells (QueryName name) (typed 3 rest)
unfolding spelling_of
query_found name rest e is =
    record {
      is_message = record { has_address = tt; fits_fields = rw e is };
      spelled = ap (typed 3) (sym e);
    }

pub publish_found : (addr inc : ℕ) (name rest : List ℕ) → IsAddress addr → inc < 2 ^ 64
    → IsTrue (is_name name) → rest ≡ big_bytes 4 addr ++ (big_bytes 8 inc ++ name)
    → Spells (Publish addr (record { 0 = inc }) name) (typed 4 rest)
unfolding spelling_of
publish_found addr inc name rest address fits is e =
    record {
      is_message = record { has_address = address.0; fits_fields = (address.1, fits, is) };
      spelled = ap (typed 4) e;
    }

pub unpublish_found : (addr : ℕ) (rest : List ℕ) → IsAddress addr → rest ≡ big_bytes 4 addr
    → Spells (Unpublish addr) (typed 5 rest)
unfolding spelling_of
unpublish_found addr rest address e =
    record {
      is_message = record { has_address = address.0; fits_fields = address.1 };
      spelled = ap (typed 5) e;
    }

pub unpublish_ack_found : (addr : ℕ) (rest : List ℕ) → IsAddress addr → rest ≡ big_bytes 4 addr
    → Spells (UnpublishAck addr) (typed 6 rest)
unfolding spelling_of
unpublish_ack_found addr rest address e =
    record {
      is_message = record { has_address = address.0; fits_fields = address.1 };
      spelled = ap (typed 6) e;
    }

-- ---- no bytes spell two messages

-- the message that the fields at their places make
message_of : ℕ → List ℕ → Option Rlnh
message_of type rest =
    (if type == 1 then Some Init
    else if type == 2 then Some InitReply
    else if type == 3 then Some (QueryName rest)
    else if type == 4 then Some
    (Publish (big_number 4 rest) (record { 0 = big_number 8 (drop 4 rest) }) (drop 12 rest))
    else if type == 5 then Some (Unpublish (big_number 4 rest))
    else if type == 6 then Some (UnpublishAck (big_number 4 rest))
    else None)

message_at : List ℕ → Option Rlnh
message_at bytes = message_of (slice_index bytes 0) (drop 4 bytes)

-- is the one that was spelled
message_again : (message : Rlnh) (bytes : List ℕ) → Spells message bytes
    → message_at bytes ≡ Some message
unfolding message_at message_of spelling_of
message_again Init bytes s = rw s.spelled refl
message_again InitReply bytes s = rw s.spelled refl
message_again (QueryName name) bytes s = rw s.spelled refl
message_again (Publish addr inc name) bytes s =
    rw (
      s.spelled,
      big_number-reads_back 4 addr (big_bytes 8 inc.0 ++ name)
          s.is_message.fits_fields.0,
      big_number-reads_back 8 inc.0 name s.is_message.fits_fields.1,
    )
    refl
message_again (Unpublish addr) bytes s =
    rw (s.spelled, big_number-reads_back 4 addr [] s.is_message.fits_fields) refl
message_again (UnpublishAck addr) bytes s =
    rw (s.spelled, big_number-reads_back 4 addr [] s.is_message.fits_fields) refl

pub unique : (a b : Rlnh) (bytes : List ℕ) → Spells a bytes → Spells b bytes → a ≡ b
unique a b bytes s t = same_Some a b (sym (message_again a bytes s) ∙ message_again b bytes t)

-- ---- refusals

pub query_refused : (e : RlnhError) (rest : List ℕ) → IsNameReading (Err e) rest
    → IsRlnhReading (Err e) (typed 3 rest)
query_refused Bad rest h = λ message s.
    let is = (behind message 3 rest s).name refl in
    absurd cc
query_refused NoMemory rest h = (QueryName rest, query_found rest rest refl h)

pub publish_refused : (e : RlnhError) (addr inc : ℕ) (name rest : List ℕ) → IsAddress addr
    → inc < 2 ^ 64 → rest ≡ big_bytes 4 addr ++ (big_bytes 8 inc ++ name)
    → IsNameReading (Err e) name → IsRlnhReading (Err e) (typed 4 rest)
publish_refused Bad addr inc name rest address fits parts h = λ message s.
    let found = (behind message 4 rest s).fields refl in
    let same : name ≡ found.name = ap (drop 12) (sym parts ∙ found.spelled) in
    let is : IsTrue (is_name name) = rw same found.name_is_name in
    absurd cc
publish_refused NoMemory addr inc name rest address fits parts h =
    (Publish addr (record { 0 = inc }) name, publish_found addr inc name rest address fits h parts)

-- what was read is the only message
pub read_only : (r : Result Rlnh RlnhError) (bytes : List ℕ) → IsRlnhReading r bytes
    → IfOk r (λ message. (other : Rlnh) → Spells other bytes → message ≡ other)
read_only (Ok message) bytes s = λ other t. unique message other bytes s t
read_only (Err e) bytes s = tt
