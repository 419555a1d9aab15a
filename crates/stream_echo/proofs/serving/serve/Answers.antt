use Rattle.std.proofs.Common.{ℕ, List, inl, refl, arith}
use Rattle.request_stream.proofs.GoingOn.{serves_none}
use Rattle.request_stream.specs.Ending.{first}
use Rattle.tcpcm_frames.specs.Frames.{IsSpelled}
use Rattle.stream_echo.specs.Replying.{EchoState, Echoes, new_echo}
use Rattle.stream_echo.proofs.serving.serve.Goals as goal

-- memory was refused before the first read
pub returns-in-Err-clause-echoed : goal.returns-in-Err-clause-echoed
returns-in-Err-clause-echoed g c =
    let begun = first new_echo (g.S.Source.left c.args.source.now) (g.K.Sink.held c.args.sink.now) in (
      new_echo,
      record {
        last = begun;
        serves = serves_none (λ (s : EchoState) (bytes : List ℕ). IsSpelled bytes) Echoes begun;
        within = omega arith;
        few = omega arith;
        source = refl;
        stops = (inl refl, refl);
      },
    )
