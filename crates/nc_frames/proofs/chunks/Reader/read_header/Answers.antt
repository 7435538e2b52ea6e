use Rattle.std.proofs.Common.{◌≡◌, length}
use Rattle.nc_frames.specs.declared.header.Step.TheVariants.{On, Octets, Stop as Stops}
use Rattle.nc_frames.specs.declared.header.Stop.TheVariants.{End, Bad, TooBig}
use Rattle.nc_frames.specs.inner.Steps.{header_step}
use Rattle.nc_frames.proofs.TurnLemmas.{Advances-one, EndsMessage-one, StopsBefore-one}
use Rattle.nc_frames.proofs.chunks.Reader.read_header.Goals as goal

pub returns-in-On-clause-read : goal.returns-in-On-clause-read
returns-in-On-clause-read c =
    let a = c.args.self.now in
    let e : header_step a.header (length a.message) c.args.byte ≡ On c.in-On.header = cc in
    rw (c.pass.ensures.source, c.pass.ensures.place) (Advances-one a _ c.args.byte c.requires.byte.0 c.args.source.now (On c.in-On.header) c.requires.byte.1 c.requires.left e (cc) (cc) (cc))

pub returns-in-Octets-clause-read : goal.returns-in-Octets-clause-read
returns-in-Octets-clause-read c =
    let a = c.args.self.now in
    let e : header_step a.header (length a.message) c.args.byte ≡ Octets c.in-Octets.left = cc in
    rw (c.pass-in-Octets.ensures.source, c.pass-in-Octets.ensures.place) (Advances-one a _ c.args.byte c.requires.byte.0 c.args.source.now (Octets c.in-Octets.left) c.requires.byte.1 c.requires.left e (cc) (cc) (cc))

pub returns-in-Stop-End-clause-read : goal.returns-in-Stop-End-clause-read
returns-in-Stop-End-clause-read c =
    let a = c.args.self.now in
    let e : header_step a.header (length a.message) c.args.byte ≡ Stops End = cc in
    rw (c.pass-in-Stop-End.ensures.source, c.pass-in-Stop-End.ensures.place) (EndsMessage-one a _ c.args.byte c.requires.byte.0 c.args.source.now c.requires.byte.1 c.requires.left e (cc) (cc) (cc) (cc))

pub returns-in-Stop-Bad-clause-read : goal.returns-in-Stop-Bad-clause-read
returns-in-Stop-Bad-clause-read c =
    let a = c.args.self.now in
    let e : header_step a.header (length a.message) c.args.byte ≡ Stops Bad = cc in
    StopsBefore-one a c.args.byte c.requires.byte.0 c.args.source.now Bad c.requires.byte.1 c.requires.left e

pub returns-in-Stop-TooBig-clause-read : goal.returns-in-Stop-TooBig-clause-read
returns-in-Stop-TooBig-clause-read c =
    let a = c.args.self.now in
    let e : header_step a.header (length a.message) c.args.byte ≡ Stops TooBig = cc in
    StopsBefore-one a c.args.byte c.requires.byte.0 c.args.source.now TooBig c.requires.byte.1 c.requires.left e
