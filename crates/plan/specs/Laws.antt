-- What was published reads back as the stations that went in.
use Rattle.std.specs.Prelude.{◌≡◌, ℕ, ◌^◌, ◌<◌, false, List, length, take, Ok}
use Rattle.std.specs.List.{flat_map}
use Rattle.common.specs.Ids.{reserved}
use Rattle.fields.specs.Fields.{be16}
use Rattle.wire.specs.Frames.{of_config2, classified, body_of}
use Rattle.config.specs.Configs.{configured, parts_of}
use Rattle.plan.specs.Plans.{parts_in}
use Rattle.plan.specs.Publish.{publishes}
use Rattle.plan.specs.Runs.{Call, start, publishing, after_call, after_calls, accepted, stations_of}

-- a frame is sound, is a configuration 2 of the sender id, and describes just the stations of the given frames, in their order: read, and byte by byte
pub record Combines (frame : List ℕ) (id rate : ℕ) (frames : List (List ℕ)) : Type 0 where
  pub told : classified frame ≡ Ok (of_config2 (body_of frame))
  pub sender : be16 frame 4 ≡ id
  pub named : reserved id ≡ false
  pub read : configured (body_of frame) 32 ≡ Ok (record { base = 1000000; stations = flat_map stations_of frames; rate = rate })
  pub parts : parts_of (body_of frame) ≡ flat_map parts_in frames

-- after any calls on one buffer, refused ones included, each publish that succeeds leaves at its front a frame that combines the accepted adds
abbrev pub ReadsBack : Type 0
ReadsBack =
    (id rate : ℕ) (buffer : List ℕ) (calls : List Call) (reading n : ℕ) →
    id < 2 ^ 16 → rate < 2 ^ 16 →
    publishes (after_calls (start id rate buffer) calls).plan reading (length (after_calls (start id rate buffer) calls).buffer) ≡ Ok n →
    Combines (take n (after_call (after_calls (start id rate buffer) calls) (publishing reading)).buffer) id rate (accepted (start id rate buffer) calls)
