-- What a pump sends.
use Rattle.std.specs.Prelude.{ℕ, ◌+◌, ◌-◌, ◌==◌, ◌||◌, List, [], ◌∷◌, ◌++◌, length, if◌then◌else◌}
use Rattle.stream_fold.specs.declared.entry.Numbered.{Numbered}
use Rattle.js_wire.specs.declared.packet.Packet.{Packet}
use Rattle.js_wire.specs.declared.packet.Packet.TheVariants.{Delivery, FlowAsk}
use Rattle.push_consumer.specs.Progress.{Progress, ConsumerState, is_spent, latest_token, asks, delivered, after_row, after_rows}
use Rattle.push_consumer.specs.Sends.{to_send}

-- Those of these rows that are sent, the first of them first: one after another while the budget lasts
-- and the window isn't spent.
abbrev pub rows_sent : ℕ → Progress → List Numbered → List Numbered
rows_sent budget q [] = []
rows_sent budget q (row ∷ rows) = if (budget == 0) || is_spent q then [] else row ∷ rows_sent (budget - 1) (after_row q row) rows

-- the delivery of a row behind which so many are still to be sent; deliveries are numbered from 1
abbrev pub delivery : ConsumerState → Progress → ℕ → Numbered → Packet
delivery c q waiting row = Delivery c.wanted.asker c.wanted.attempt c.stream c.name (q.count + 1) row.seq waiting row.message

-- the flow request with the next token, where it is due
abbrev pub flow_request : ConsumerState → Progress → List Packet
flow_request c q = if asks q then FlowAsk c.wanted.asker c.wanted.attempt c.wanted.origin c.stream c.name (latest_token q + 1) ∷ [] else []

-- a delivery, and a flow request where it is due then
abbrev pub packets_of : ConsumerState → Progress → ℕ → Numbered → List Packet
packets_of c q waiting row = delivery c q waiting row ∷ flow_request c (delivered q row)

-- The packets of those of these rows that are sent. A delivery tells how many rows stand behind its own.
abbrev pub packets_sent : ConsumerState → ℕ → Progress → List Numbered → List Packet
packets_sent c budget q [] = []
packets_sent c budget q (row ∷ rows) = if (budget == 0) || is_spent q then [] else packets_of c q (length rows) row ++ packets_sent c (budget - 1) (after_row q row) rows

-- ---- a pump over the kept messages

-- the rows that it sends: none where the consumer is paused
abbrev pub pump_rows : List Numbered → ℕ → ConsumerState → List Numbered
pump_rows rows budget c = if c.paused then [] else rows_sent budget c.progress (to_send rows c)

-- the packets that it sends
abbrev pub pump_packets : List Numbered → ℕ → ConsumerState → List Packet
pump_packets rows budget c = if c.paused then [] else packets_sent c budget c.progress (to_send rows c)

-- the consumer behind it, whose last packet was sent now where anything was sent
abbrev pub pumped : List Numbered → ℕ → ℕ → ConsumerState → ConsumerState
pumped rows budget now c = record c { progress = after_rows c.progress (pump_rows rows budget c); moment = if length (pump_packets rows budget c) == 0 then c.moment else now }
