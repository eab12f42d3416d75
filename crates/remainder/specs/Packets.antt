-- The parities of a run of packets, one behind the other.
--     packet_at         the 188 bytes of a packet of the run
--     parity_byte       a byte of the parities of all packets, one behind the other
--     parities_fit      the packets are whole, and there are 16 bytes for the parity of each
--     parities_of       what becomes of these bytes
use Rattle.std.specs.Prelude.{Bool, cond, ◌&&◌, List, ℕ, ◌*◌, ◌/◌, ◌%◌, eqb, length, get_or}
use Rattle.lists.specs.Tab.{tab}
use Rattle.rules.specs.Word.{parity_of, packet_at}

-- byte k of their parities, sixteen bytes each
unfoldable pub parity_byte : List ℕ → ℕ → ℕ
parity_byte packets k = get_or (parity_of (packet_at packets (k / 16))) (k % 16) 0

-- "188 bytes, then 16 parity bytes", for each of so many packets
unfoldable pub parities_fit : List ℕ → List ℕ → Bool
parities_fit packets out =
    let count = length packets / 188 in eqb (length packets) (188 * count) && eqb (length out) (16 * count)

-- where the lengths do not fit, the bytes stay as they are
unfoldable pub parities_of : List ℕ → List ℕ → List ℕ
parities_of packets out = cond (parities_fit packets out) (tab (length out) (parity_byte packets)) out
