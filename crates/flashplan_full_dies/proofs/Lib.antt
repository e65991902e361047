mod LifeByLife
