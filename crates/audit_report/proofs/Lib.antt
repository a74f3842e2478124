mod FrontFacts
mod RunFacts
mod Decides
