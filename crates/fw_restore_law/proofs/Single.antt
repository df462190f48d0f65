-- Single values of the permanent settings, lists of them and what stands under a key: what is written is read.
use Rattle.std.proofs.Common.{◌≡◌, ◌∙◌, ℕ, suc, ◌<◌, ◌^◌, List, [], ◌∷◌, map, Option, None, Some, Result, Ok, IsTrue, ℤ, pos, negsuc, decimal, refl, ap, arith}
use Rattle.std.specs.Option.{option_map}
use Rattle.std.proofs.lemmas.Bool.{lt-ltb}
use Rattle.fw_addr.specs.Interfaces.{interface, is_interface}
use Rattle.fw_addr.specs.Ports.{port as port_number}
use Rattle.fw_addr.specs.Canonical.{address_text}
use Rattle.fw_addr.specs.Nets.{net_text}
use Rattle.fw_addr.specs.Subnets.{Subnet}
use Rattle.fw_addr.specs.declared.addr.Addr.{Addr}
use Rattle.fw_load.specs.Fields.{behind, elements, field, found_by, list_in}
use Rattle.fw_load.specs.Values as said
use Rattle.fw_model.specs.declared.forward.Forward.{Forward}
use Rattle.fw_model.specs.declared.port.Port.{Port}
use Rattle.fw_rich_law.specs.Values.{IsAddress, IsForward, IsNet}
use Rattle.fw_restore_law.specs.Ranges.{IsI32, IsPort}
use Rattle.fw_restore_law.proofs.Printed.{Printed}
use Rattle.fw_store.specs.Objects.{forward_data, list_of, port_data}
use Rattle.fw_store.specs.Texts.{destination_text, to_addr_text, to_port_text}
use Rattle.fw_valid.specs.Each.{Each, IfThere}
use Rattle.serde_json.specs.Data.{Data, number, string}
use Rattle.serde_json.specs.Find.{get, of_integer}
use Rattle.serde_json.specs.View.{items_of}

-- ---- lists and keys

elements_read : {T : Type 0} (reading : Data → Result T (List ℕ)) (one : T → Data) (Fit : T → Type 0) → ((item : T) → Fit item → reading (one item) ≡ Ok item)
    → (items : List T) → Each Fit items → (place : ℕ) → elements reading place (items_of (map one items)) ≡ Ok items
elements_read reading one Fit read [] all place = refl
elements_read reading one Fit read (item ∷ items) all place = rw (read item all.0, elements_read reading one Fit read items all.1 (suc place)) refl

pub list_read : {T : Type 0} (reading : Data → Result T (List ℕ)) (one : T → Data) (Fit : T → Type 0) → ((item : T) → Fit item → reading (one item) ≡ Ok item)
    → (items : List T) → Each Fit items → list_in reading (list_of one items) ≡ Ok items
unfolding list_in
list_read reading one Fit read items all = elements_read reading one Fit read items all 0

any : {T : Type 0} (items : List T) → Each (λ item. Unit {0}) items
any [] = tt
any (item ∷ items) = (tt, any items)

pub names_read : (names : List (List ℕ)) → list_in said.text (list_of (λ name. string name) names) ≡ Ok names
names_read names = list_read said.text (λ name. string name) (λ name. Unit {0}) (λ name is. refl) names (any names)

pub field_read : {T : Type 0} (reading : Data → Result T (List ℕ)) (key : List ℕ) (value found : Data) (item : T) → get key value ≡ Some found → reading found ≡ Ok item → field reading key value ≡ Ok item
unfolding field
field_read reading key value found item there read = ap (λ at. behind (46 ∷ key) (found_by reading at)) there ∙ ap (behind (46 ∷ key)) read

-- ---- single values

pub interface_read : (name : List ℕ) → IsTrue (is_interface name) → said.text_by interface (string name) ≡ Ok name
interface_read name is = rw is refl

there : {T : Type 0} (reading : List ℕ → Option T) (text : List ℕ) (item : T) → reading [] ≡ None → reading text ≡ Some item → said.unless_empty reading text ≡ Some (Some item)
there reading [] item nothing is = cc
there reading (letter ∷ others) item nothing is = ap (option_map Some) is

pub port_read : Printed → (port : Port) → IsPort port → said.port (port_data port) ≡ Ok port
unfolding said.port_of
port_read printed port is = rw (printed.ports port.range is, printed.port_protocols port.proto) refl

to_port_read : Printed → (port : Option ℕ) → IfThere (λ port. port < 2 ^ 16) port → said.unless_empty port_number (to_port_text port) ≡ Some port
to_port_read printed None is = refl
to_port_read printed (Some port) is = there port_number (decimal port) port refl (printed.numbers port is)

to_addr_read : Printed → (addr : Option Addr) → IfThere IsAddress addr → said.unless_empty said.host (to_addr_text addr) ≡ Some addr
unfolding said.host
to_addr_read printed None is = refl
to_addr_read printed (Some addr) is = there said.host (address_text addr) addr refl (printed.hosts addr is)

pub forward_read : Printed → (forward : Forward) → IsForward forward → said.forward (forward_data forward) ≡ Ok forward
unfolding said.port_of said.forward_of
forward_read printed forward is =
    rw (printed.ports forward.port.range is.0, printed.port_protocols forward.port.proto, to_port_read printed forward.to_port is.1, to_addr_read printed forward.to_addr is.2) refl

pub destination_read : Printed → (net : Option Subnet) → IfThere IsNet net → said.text_by (said.unless_empty said.network) (string (destination_text net)) ≡ Ok net
unfolding said.network
destination_read printed None is = refl
destination_read printed (Some net) is = ap said.or_fault (there said.network (net_text net) net refl (printed.nets net is))

pub whole_read : (n : ℤ) → IsI32 n → said.whole (number (of_integer n)) ≡ Ok n
whole_read (pos n) is = rw (lt-ltb n (2 ^ 63) (omega (arith, is)), lt-ltb n (2 ^ 31) is) refl
whole_read (negsuc n) is = rw (lt-ltb n (2 ^ 31) is) refl
