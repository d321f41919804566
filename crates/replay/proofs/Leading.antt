-- What a next of a feed becomes once its lines are led to ports.
use Rattle.std.proofs.Common.{◌≡◌, ℕ, false, List, [], ◌∷◌, length, ap, ◌∙◌}
use Rattle.common.specs.declared.ids.Port.{Port}
use Rattle.fields.specs.Fields.{over}
use Rattle.feed.specs.declared.feed.Taken.{Taken}
use Rattle.feed.specs.Feeds.{Waiting, Next, Behaviour, after}
use Rattle.feed.specs.Calls.{short}
use Rattle.feed.proofs.Nexts.{came, Nexted}
use Rattle.listing.specs.declared.build.Outcome.{Outcome}
use Rattle.replay.specs.Wires.{port_at, all_led}

module _ (lines : List Outcome) (m m' : Behaviour) (b b' : List ℕ) (t : Taken) (q : Port) (n : Nexted m m' b b' t) (goes : q.0 ≡ port_at lines t.port.0) where
  by_first : (w : Waiting) (ws : List Waiting) → short b ≡ false → m [] ≡ w ∷ ws → t ≡ record { port = record { 0 = w.port }; len = length w.bytes } → Nexted (all_led lines m) (all_led lines m') b b' (record { port = q; len = t.len })
  by_first w ws room waited told =
      let len : t.len ≡ length w.bytes = ap (λ (x : Taken). x.len) told in
      let port : q.0 ≡ port_at lines w.port = goes ∙ ap (λ (x : Taken). port_at lines x.port.0) told in
      let there : q ≡ record { 0 = port_at lines w.port } = ap (λ k. record { 0 = k }) port in
      let full : b' ≡ over w.bytes b = n.frame ∙ rw (room, waited) in
      let left : m' ≡ after m Next = n.left ∙ rw (room, waited) in
      record { answer = rw (room, waited) (cc); frame = rw (room, waited) full; left = rw (room, waited) (ap (all_led lines) left) }

  pub led-next : Nexted (all_led lines m) (all_led lines m') b b' (record { port = q; len = t.len })
  led-next =
      let c = came (m []) b t n.answer in by_first c.first c.others c.room c.waited c.told
