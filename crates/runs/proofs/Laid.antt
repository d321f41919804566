-- The engine's combined frames are laid out port by port.
use Rattle.std.proofs.Common.{◌≡◌, ℕ, suc, ◌+◌, List, [], ◌∷◌, ◌++◌, length, sym, refl, ap, ◌∙◌, append_assoc, append-nil, add-one, arith, length-append}
use lib.Seq.{get_or-append_seam}
use Rattle.fields.specs.Fields.{bytes16}
use Rattle.crc.specs.CheckWord.{check_word_of}
use Rattle.wire.specs.Frames.{sealed}
use Rattle.plan.specs.Ports.{PortOf}
use Rattle.combined.specs.Blocks.{port_at}
use Rattle.combined.specs.Frames.{block_bytes, body_from, slot_frame}
use Rattle.engine.specs.Boxes as E
use Rattle.laws.specs.Setting.{Contents}
use Rattle.laws.specs.Bytes.{body, laid_out}
use Rattle.runs.specs.Models.{blocks_of}
use Rattle.runs.specs.Layouts.{head, layout}

module _ (e : E.Setting) where
  bodies : (x : Contents) (k : ℕ) (pre qs : List PortOf) → length pre ≡ k → e.ports ≡ pre ++ qs → body (layout e) x k ++ body_from (blocks_of e x) qs k ≡ body (layout e) x (k + length qs)
  bodies x k pre [] l z = let w : k ≡ k + 0 = omega arith in append-nil (body (layout e) x k) ∙ ap (body (layout e) x) w
  bodies x k pre (q ∷ qs) l z =
      let at : port_at e.ports k ≡ q = rw (z, ← l) (get_or-append_seam pre q qs (record { id = 0; base = 0; stations = [] })) in
      let long : length (pre ++ (q ∷ [])) ≡ suc k = let m = length-append pre (q ∷ []) in omega (arith, m) in
      let ih = bodies x (suc k) (pre ++ (q ∷ [])) qs long (z ∙ sym (append_assoc pre (q ∷ []) qs)) in
      let w : suc k + length qs ≡ k + suc (length qs) = omega arith in
      sym (append_assoc (body (layout e) x k) (block_bytes q (blocks_of e x k)) (body_from (blocks_of e x) qs (k + 1)))
      ∙ ap (λ t. (body (layout e) x k ++ block_bytes t (blocks_of e x k)) ++ body_from (blocks_of e x) qs (k + 1)) (sym at)
      ∙ ap (λ t. body (layout e) x (suc k) ++ body_from (blocks_of e x) qs t) (add-one k)
      ∙ ih ∙ ap (body (layout e) x) w

  pub lays : (n : ℕ) (x : Contents) → slot_frame e.id e.rate e.ports n (blocks_of e x) ≡ laid_out (layout e) (length e.ports) n x
  unfolding sealed
  lays n x = ap (λ t. (head e n x ++ t) ++ bytes16 (check_word_of (head e n x ++ body_from (blocks_of e x) e.ports 0))) (bodies x 0 [] e.ports refl refl ∙ ap (body (layout e) x) none) ∙ append_assoc (head e n x) (body (layout e) x (length e.ports)) (bytes16 (check_word_of (head e n x ++ body_from (blocks_of e x) e.ports 0)))
    where
      none : 0 + length e.ports ≡ length e.ports
      none = omega arith
