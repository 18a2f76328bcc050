-- The number, the layer and the place that a fault of the network tells, and how a layer is printed. Assumes nothing.
use Rattle.std.specs.Prelude.{ℕ, List, codes}
use Rattle.network.specs.declared.faults.NetworkFault.{NetworkFault}
use Rattle.network.specs.declared.faults.NetworkFault.TheVariants as fault
use Rattle.network.specs.declared.faults.Layer.{Layer}
use Rattle.network.specs.declared.faults.Layer.TheVariants as layer

abbrev pub network_number : NetworkFault → ℕ
network_number fault.Length = 1
network_number (fault.Event place) = 3
network_number fault.Floor = 4
network_number fault.Duration = 5
network_number fault.Count = 6
network_number (fault.Ring count) = 12

abbrev pub network_layer : NetworkFault → Layer
network_layer f = layer.Network

-- of a 3 the number that names no event
abbrev pub network_place : NetworkFault → ℕ
network_place (fault.Event place) = place
network_place _ = 0

-- what is printed of a layer
abbrev pub layer_name : Layer → List ℕ
layer_name layer.Network = codes "network"
layer_name layer.Plan = codes "plan"
layer_name layer.Book = codes "book"
