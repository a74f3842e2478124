mod NumberFacts
mod CutFacts
mod NameFacts
mod Binds
mod HexFacts
mod DottedFacts
mod EndpointFacts
mod GroupFacts
