use Rattle.std.proofs.Common.{◌≡◌, ◌+◌, ◌<◌, ◌++◌, ◌∷◌, [], map, length, sym, ap, ◌∙◌, arith}
use Rattle.std.proofs.lemmas.List.{length-map, map-append}
use Rattle.std.proofs.lemmas.List.Sums.{sum_by_push}
use Rattle.fixed.specs.FixedList.{items_of}
use Rattle.fixed.proofs.Pushes.{pushed-room}
use Rattle.layout.specs.Blocks.{data_length}
use Rattle.plan.specs.Ports.{PortOf, station_count, body_length, body_spans, part_lengths, parts_length}
use Rattle.plan.specs.Tables.{port_of, ports_of}
use Rattle.plan.proofs.Accepts.{roomy}
use Rattle.plan.proofs.Spans.{push-span, length-spans}
use Rattle.plan.proofs.plan.Plan.place.Goals as goal

pub invariant_of-self : goal.invariant_of-self
invariant_of-self c =
    let s = c.args.self.now in
    let r = c.args.request.now in
    let ps = ports_of s.table in
    let q = port_of r.port in
    let fits = roomy ps q c.requires in
    let count = length-map (items_of s.table) port_of in
    let ports : ports_of c.push.new.self ≡ ps ++ q ∷ [] =
    ap (map port_of) (c.push.ensures.items ∙ pushed-room 16 r.port (items_of s.table) (omega (arith, fits.ports, count)))
    ∙ map-append port_of (items_of s.table) (r.port ∷ []) in
    let places = ap length s.spanned ∙ length-spans ps in
    let spans = c.push-2.ensures.items ∙ pushed-room 16 _ (items_of s.spans) (omega (arith, fits.ports, places)) in
    let stations = ap station_count ports ∙ sum_by_push (λ (p : PortOf). length p.stations) ps q in
    let bodies = ap body_length ports ∙ sum_by_push (λ (p : PortOf). data_length p.stations) ps q in
    let parts = ap parts_length ports ∙ sum_by_push (λ (p : PortOf). part_lengths p.stations) ps q in
    record {
      spanned = cc (spans, s.spanned, s.measured, c.data_len-len.ensures.length, push-span ps q, ap body_spans ports);
      counted = omega (arith, stations, s.counted, c.len.ensures.length);
      measured = omega (arith, bodies, s.measured, c.data_len-len.ensures.length);
      filled = omega (arith, parts, s.filled, r.measured);
      few = omega (arith, fits.stations, s.counted, c.len.ensures.length);
      narrow = omega (arith, fits.body, s.measured, c.data_len-len.ensures.length);
      bounded = omega (arith, s.bounded, r.bounded, c.len.ensures.length, c.data_len-len.ensures.length);
    }
